-- What the symbols of a text are answered.
use Rattle.std.proofs.Common.{◌≡◌, ℕ, ◌<◌, ◌≤◌, Bool, true, false, List, [], ◌∷◌, length, Some, None, refl, sym, ap, subst, ◌∙◌, inl, inr, arith}
use Rattle.std.proofs.lemmas.Bool.{cases_lt}
use Rattle.formula_ast.specs.Tree.{Tree}
use Rattle.formula_grammar.specs.declared.symbol.Symbol.{Symbol}
use Rattle.formula_grammar.specs.Symbols.{Setting}
use Rattle.formula_grammar.specs.Grammar.{Spells, Level}
use Rattle.formula_grammar.specs.Formula.{SpellsFormula}
use Rattle.formula_grammar.specs.Depth.{most_open}
use Rattle.formula_grammar.proofs.Sound.{Spelled}
use Rattle.formula_grammar.proofs.Turns.{some_is}
use Rattle.formula_grammar.proofs.Whole.{SpellsTree, found, more_left, none_spelled}
use Rattle.formula_parser.specs.declared.branch.Part.{Part}
use Rattle.formula_parser.specs.declared.fault.ParseFault.TheVariants as fault
use Rattle.formula_parser.specs.Answers.{SymbolAnswers, behind_mark}
use Rattle.formula_parser.specs.Built.{built}
use Rattle.formula_parser.specs.Given.{formulas}
use Rattle.formula_parser.proofs.Building.{built_shows}
use Rattle.formula_parser.proofs.MarkReading.{mark_read, mark_room, mark_there}
use Rattle.std.specs.Prelude.{Err}

-- what the symbols spell stands behind the mark that is read
behind_spelled : (S : Setting) (ss b : List Symbol) (t : Tree) → behind_mark S ss ≡ Some b → SpellsFormula S ss t → SpellsTree S b t
behind_spelled S ss b t e f =
    let same : f.behind ≡ b = some_is f.behind b (sym (mark_there f.marks f.spells) ∙ ap (behind_mark S) (sym f.are) ∙ e) in
    record { part = f.part; is = f.is; spells = subst (λ c. Spells S (Level 5) c f.part) same f.spells }

-- no more brackets are open behind the mark
room_behind : (S : Setting) (ss b : List Symbol) → behind_mark S ss ≡ Some b → most_open 0 ss ≤ 64 → most_open 0 b ≤ 64
room_behind S ss b e room = let m = mark_read S ss b e in mark_room 0 64 b m.marks (subst (λ c. most_open 0 c ≤ 64) m.are room)

pub no_mark : (S : Setting) (ss : List Symbol) → most_open 0 ss ≤ 64 → behind_mark S ss ≡ None → SymbolAnswers S ss (Err fault.Syntax)
no_mark S ss room e = (room, λ t f. let there : behind_mark S ss ≡ Some f.behind = ap (behind_mark S) f.are ∙ mark_there f.marks f.spells in let k : None ≡ Some f.behind = sym e ∙ there in cc k)

pub not_read : (S : Setting) (ss b : List Symbol) → most_open 0 ss ≤ 64 → behind_mark S ss ≡ Some b → formulas S 65 b ≡ None → SymbolAnswers S ss (Err fault.Syntax)
not_read S ss b room e none = (room, λ t f. none_spelled S (built S) (built_shows S) 64 b (room_behind S ss b e room) none t (behind_spelled S ss b t e f))

pub more_behind : (S : Setting) (ss b : List Symbol) (p : Part) (rest : List Symbol) → most_open 0 ss ≤ 64 → behind_mark S ss ≡ Some b → formulas S 65 b ≡ Some (p, rest) → (rest ≡ [] → ⊥) → SymbolAnswers S ss (Err fault.Syntax)
more_behind S ss b p rest room e read some = (room, λ t f. more_left S (built S) (built_shows S) 64 b p rest (room_behind S ss b e room) read some t (behind_spelled S ss b t e f))

-- what is read to the end is spelled
pub read_whole : (S : Setting) (b : List Symbol) (p : Part) (rest : List Symbol) → formulas S 65 b ≡ Some (p, rest) → rest ≡ [] → Spelled S (built S) (built_shows S) (Level 5) b p
read_whole S b p rest read none = found S (built S) (built_shows S) 65 b p rest read none

pub shallow : (m : ℕ) → (64 < m → ◌≡◌ {A = Bool} false true) → m ≤ 64
shallow m h = elim (cases_lt 64 m) [ inl lt ↦ absurd (let k = h lt in cc) | inr le ↦ le ]

pub nil_of : (ss : List Symbol) → length ss < 1 → ss ≡ []
nil_of [] h = refl
nil_of (s ∷ ss) h = absurd (omega arith)

pub not_nil : (ss : List Symbol) → 0 < length ss → ss ≡ [] → ⊥
not_nil ss h e = omega (arith, ap length e)
