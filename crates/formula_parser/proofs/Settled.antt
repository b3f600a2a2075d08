-- What a branch in the end says of the tree that is spelled.
use Rattle.std.proofs.Common.{◌≡◌, ℕ, ◌<◌, ◌≤◌, min, Bool, true, false, cond, List, Option, Some, None, Result, Ok, Err, refl, ap, subst, ◌∙◌, inr, arith, if◌then◌else◌}
use Rattle.std.specs.Prelude.{◌&&◌, ◌||◌, not, nat_le, nat_lt}
use Rattle.std.proofs.lemmas.Bool.Decides.{nat_tests}
use Rattle.formula_ast.specs.Measures.{height_of}
use Rattle.formula_ast.specs.Tree.{Tree}
use Rattle.formula_grammar.specs.declared.symbol.Symbol.{Symbol}
use Rattle.formula_grammar.specs.Symbols.{Setting}
use Rattle.formula_grammar.specs.Grammar.{Level}
use Rattle.formula_grammar.specs.Faults.{has_part, is_lost, is_miscounted, is_wide}
use Rattle.formula_grammar.specs.Formula.{SpellsFormula}
use Rattle.formula_grammar.specs.Depth.{most_open}
use Rattle.formula_grammar.proofs.Sound.{Spelled}
use Rattle.formula_parser.specs.declared.branch.Part.{Part}
use Rattle.formula_parser.specs.declared.fault.ParseFault.{ParseFault}
use Rattle.formula_parser.specs.declared.fault.ParseFault.TheVariants as fault
use Rattle.formula_parser.specs.Answers.{Settles, SymbolAnswers, fault_of}
use Rattle.formula_parser.specs.Built.{built}
use Rattle.formula_parser.proofs.Building.{built_shows}
use Rattle.formula_parser.proofs.MarkReading.{MarkRead}

-- the first of the faults
abbrev first : ℕ → Bool → Bool → Bool → Option ParseFault
first h l m w =
    if nat_lt 512 h then Some fault.TooDeep else if l then Some fault.UnknownSheet else if m then Some fault.ArgumentCount else if w then Some fault.WideNumeral else None

whole_test : ℕ → Bool → Bool → Bool → Bool
whole_test h l m w = nat_le h 512 && not (l || (m || w))

low : (h : ℕ) (x : Option ParseFault) → h ≤ 512 → (if nat_lt 512 h then Some fault.TooDeep else x) ≡ x
low h x le = by (nat_lt 512 h) refl
  where
    by : (b : Bool) → nat_lt 512 h ≡ b → cond b (Some fault.TooDeep) x ≡ x
    by true e = absurd (let k : 512 < h = grind (arith, nat_tests) in omega arith)
    by false e = refl

high : (h : ℕ) (x : Option ParseFault) → 512 < h → (if nat_lt 512 h then Some fault.TooDeep else x) ≡ Some fault.TooDeep
high h x lt = by (nat_lt 512 h) refl
  where
    by : (b : Bool) → nat_lt 512 h ≡ b → cond b (Some fault.TooDeep) x ≡ Some fault.TooDeep
    by true e = refl
    by false e = absurd (let k : h ≤ 512 = grind (arith, nat_tests) in omega arith)

whole_kept : (b : Bool) (t u : Tree) → cond b (Some t) None ≡ Some u → (b ≡ true) × (t ≡ u)
whole_kept true t u e = (refl, cc)
whole_kept false t u e = absurd cc

whole_lost : (b : Bool) (t : Tree) → ◌≡◌ {A = Option Tree} (cond b (Some t) None) None → b ≡ false
whole_lost true t e = absurd cc
whole_lost false t e = refl

wide_only : (h : ℕ) (l m w : Bool) → (nat_le h 512 && not (l || (m || w))) ≡ false → h ≤ 512 → l ≡ false → m ≡ false → w ≡ true
wide_only h l m w e le a b = grind (arith, nat_tests)

none_wide : (h : ℕ) (l m w : Bool) → (nat_le h 512 && not (l || (m || w))) ≡ true → w ≡ false
none_wide h l m w e = grind (arith, nat_tests)

pub settled : (S : Setting) (ss b : List Symbol) (p : Part) → most_open 0 ss ≤ 64 → MarkRead S ss b → Spelled S (built S) (built_shows S) (Level 5) b p → (r : Result Tree ParseFault) → Settles p.branch r → SymbolAnswers S ss r
unfolding built_shows
settled S ss b p room mark s r a =
    by s.part.tree (record { mark = mark.mark; behind = b; part = s.part; are = mark.are; marks = mark.marks; spells = s.spells; is = refl })
    (ap (λ (x : Part). x.branch.height) s.is) (ap (λ (x : Part). x.branch.faults.lost) s.is) (ap (λ (x : Part). x.branch.faults.miscounted) s.is) (ap (λ (x : Part). x.branch.expr) s.is) r a
  where
    by : (t : Tree) → SpellsFormula S ss t → min 513 (height_of t) ≡ p.branch.height → has_part is_lost t ≡ p.branch.faults.lost → has_part is_miscounted t ≡ p.branch.faults.miscounted
        → cond (nat_le (min 513 (height_of t)) 512 && not (has_part is_lost t || (has_part is_miscounted t || has_part is_wide t))) (Some t) None ≡ p.branch.expr
        → (r : Result Tree ParseFault) → Settles p.branch r → SymbolAnswers S ss r
    by t sp h l m e (Ok u) a =
        let k = whole_kept _ t u (e ∙ a.0) in
        let clean = none_wide (min 513 (height_of t)) (has_part is_lost t) (has_part is_miscounted t) (has_part is_wide t) k.0 in
        let small : height_of t ≤ 512 = let j = a.1 in omega arith in
        let none : fault_of t ≡ None = low (height_of t) _ small ∙ rw (l, a.2, m, a.3, clean) refl in
        (room, subst (SpellsFormula S ss) k.1 sp, subst (λ v. fault_of v ≡ None) k.1 none)
    by t sp h l m e (Err fault.Memory) a = tt
    by t sp h l m e (Err fault.Syntax) a = absurd a
    by t sp h l m e (Err fault.TooDeep) a = inr (t, sp, high (height_of t) _ (omega arith))
    by t sp h l m e (Err fault.UnknownSheet) a =
        let small : height_of t ≤ 512 = let j = a.0 in omega arith in
        (room, (t, sp, low (height_of t) _ small ∙ rw (l, a.1) refl))
    by t sp h l m e (Err fault.ArgumentCount) a =
        let small : height_of t ≤ 512 = let j = a.0 in omega arith in
        (room, (t, sp, low (height_of t) _ small ∙ rw (l, a.1, m, a.2) refl))
    by t sp h l m e (Err fault.WideNumeral) a =
        let small : height_of t ≤ 512 = let j = a.0 in omega arith in
        let wide = wide_only (min 513 (height_of t)) (has_part is_lost t) (has_part is_miscounted t) (has_part is_wide t) (whole_lost _ t (e ∙ a.3)) (omega arith) (l ∙ a.1) (m ∙ a.2) in
        (room, (t, sp, low (height_of t) _ small ∙ rw (l, a.1, m, a.2, wide) refl))
