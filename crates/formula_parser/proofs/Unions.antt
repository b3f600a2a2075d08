-- References joined in a union, as they are read and kept.
use Rattle.std.proofs.Common.{◌≡◌, ◌≤◌, ◌<◌, ◌-◌, ℕ, Bool, true, false, List, [], ◌∷◌, ◌++◌, length, take, map, Option, Some, None, refl, sym, ap, subst, ◌∙◌, arith}
use Rattle.std.specs.Prelude.{All}
use Rattle.std.specs.Option.{option_map, option_and_then}
use Rattle.std.proofs.lemmas.List.Elements.{All-cons, All-head, All-nil, All-tail}
use Rattle.cell_refs.specs.Areas.{Area, IsOnSheet}
use Rattle.cell_refs.specs.declared.span.Span.{Span}
use Rattle.formula_ast.specs.Measures.{listed}
use Rattle.formula_ast.specs.Sound.{IsOnItsSheet}
use Rattle.formula_ast.specs.Tree.{Tree, Listed, Reference, Referred, Unlisted}
use Rattle.formula_grammar.specs.declared.symbol.Symbol.{Symbol}
use Rattle.formula_grammar.specs.Symbols.{Setting, last_end, place_of}
use Rattle.formula_grammar.specs.Faults.{some_unlisted}
use Rattle.formula_grammar.specs.Leaves as leaves
use Rattle.formula_grammar.specs.References.{SpellsUnion, one, joined}
use Rattle.formula_grammar.specs.Loops.{Found}
use Rattle.formula_grammar.specs.LeafReading.{references_at, union_at}
use Rattle.formula_grammar.proofs.Turns.{Reads, shorter, some_is}
use Rattle.formula_grammar.proofs.LeafSound.{before_rest, union_sound}
use Rattle.formula_grammar.proofs.LeafBegins.{leaf_begins}
use Rattle.formula_parser.specs.declared.stop.Stop.{Stop}
use Rattle.formula_parser.specs.declared.stop.Stop.TheVariants as stops
use Rattle.formula_parser.specs.declared.branch.Branch.{Branch}
use Rattle.formula_parser.specs.declared.branch.Part.{Part}
use Rattle.formula_parser.specs.Built.{branch, branch_of, faults_of, no_faults}
use Rattle.formula_parser.specs.Given.{Fails}
use Rattle.formula_parser.specs.Leaves.{areas_of, leaf_found, leaf_part}
use Rattle.formula_parser.specs.Placed.{AreSymbols, InOrder, IsInFront, IsInText}
use Rattle.formula_parser.proofs.LeafParts.{leaf_placed}
use Rattle.formula_parser.proofs.Order.{first_behind}

-- ---- areas

-- listed areas are listed
pub none_unlisted : (areas : List Area) → some_unlisted (map Listed areas) ≡ false
none_unlisted [] = refl
none_unlisted (a ∷ areas) = none_unlisted areas

-- where each is listed, they are the listed ones
all_listed : (rs : List Referred) → some_unlisted rs ≡ false → rs ≡ map Listed (listed rs)
all_listed [] e = refl
all_listed (Listed a ∷ rs) e = ap (λ us. Listed a ∷ us) (all_listed rs e)
all_listed (Unlisted sheet ∷ rs) e = absurd cc

-- areas on a sheet are on their sheets
pub on_sheets : (areas : List Area) → All IsOnSheet areas → All IsOnItsSheet (map Listed areas)
on_sheets [] h = All-nil IsOnItsSheet
on_sheets (a ∷ areas) h = All-cons IsOnItsSheet (Listed a) (map Listed areas) (All-head IsOnSheet a areas h) (on_sheets areas (All-tail IsOnSheet a areas h))

-- what is spelled is at least one reference
some_behind : (rs : List Referred) (r : Referred) → 0 < length (rs ++ r ∷ [])
some_behind [] r = omega arith
some_behind (x ∷ rs) r = omega arith

spelled_some : {S : Setting} {a : List Symbol} {rs : List Referred} → SpellsUnion S a rs → 0 < length rs
spelled_some (one {a} {r} p) = omega arith
spelled_some (joined {a} {b} {rs} {r} s e p q) = some_behind rs r

-- a tree of listed areas has no faults
pub listed_faults : (at : Span) (areas : List Area) → faults_of (Reference at (map Listed areas)) ≡ no_faults
listed_faults at areas = ap (λ b. record { lost = b; miscounted = false; wide = false }) (none_unlisted areas)

-- ---- where symbols stand

-- from the first symbol to the last
order_split : (text : List ℕ) (from : ℕ) (s : Symbol) (ss rest : List Symbol) → All (IsInText text) (s ∷ (ss ++ rest)) → InOrder from (s ∷ (ss ++ rest))
    → (s.span.start ≤ last_end s.span.end ss) × InOrder (last_end s.span.end ss) rest
order_split text from s [] rest all order = let some = (All-head (IsInText text) s rest all).some in (omega arith, order.1)
order_split text from s (t ∷ ss) rest all order =
    let some = (All-head (IsInText text) s (t ∷ (ss ++ rest)) all).some in
    let next = order_split text s.span.end t ss rest (All-tail (IsInText text) s (t ∷ (ss ++ rest)) all) order.1 in
    let a = next.0 in let b = order.1.0 in (omega arith, next.1)

-- the place of the first symbols
pub same_place : (ss : List Symbol) (n m : ℕ) (at : Span) → at ≡ place_of (take n ss) → n ≡ m → at ≡ place_of (take m ss)
same_place ss n m at e is = e ∙ ap (λ k. place_of (take k ss)) is

module _ (S : Setting) where
  -- the references that were read
  record UnionRead (ss : List Symbol) (areas : List Area) (lost : Bool) (rest : List Symbol) : Type 0 where
    pub references : List Referred
    pub read : union_at S ss ≡ Some (references, rest)
    pub areas_are : areas ≡ listed references
    pub lost_is : lost ≡ some_unlisted references

  -- they are read as they are given
  union_given : (ss : List Symbol) (areas : List Area) (lost : Bool) (rest : List Symbol) → option_map {U = (List Area × Bool) × List Symbol} (λ f. (areas_of f.0, f.1)) (union_at S ss) ≡ Some ((areas, lost), rest) → UnionRead ss areas lost rest
  union_given ss areas lost rest e = by_case (union_at S ss) refl e
    where
      by_case : (o : Found (List Referred)) → union_at S ss ≡ o → option_map {U = (List Area × Bool) × List Symbol} (λ f. (areas_of f.0, f.1)) o ≡ Some ((areas, lost), rest) → UnionRead ss areas lost rest
      by_case None is e = absurd cc
      by_case (Some x) is e =
          let same : ◌≡◌ {A = (List Area × Bool) × List Symbol} (areas_of x.0, x.1) ((areas, lost), rest) = some_is _ _ e in record {
            references = x.0;
            read = is ∙ ap (λ (p : (List Area × Bool) × List Symbol). Some (x.0, p.1)) same;
            areas_are = ap (λ (p : (List Area × Bool) × List Symbol). p.0.0) (sym same);
            lost_is = ap (λ (p : (List Area × Bool) × List Symbol). p.0.1) (sym same);
          }

  -- the references fail
  pub references_fail : (e : Stop) (ss : List Symbol) → Fails e (option_map {U = (List Area × Bool) × List Symbol} (λ f. (areas_of f.0, f.1)) (union_at S ss)) → Fails e (leaf_found (references_at S ss))
  unfolding references_at
  references_fail stops.Memory ss h = tt
  references_fail stops.Syntax ss h = by_case (union_at S ss) h
    where
      by_case : (o : Found (List Referred)) → option_map {U = (List Area × Bool) × List Symbol} (λ f. (areas_of f.0, f.1)) o ≡ None
          → leaf_found (option_and_then (λ (rs : List Referred × List Symbol). Some (Reference (place_of (take (length ss - length rs.1) ss)) rs.0, rs.1)) o) ≡ None
      by_case None h = refl
      by_case (Some x) h = absurd cc

  module _ (ss : List Symbol) (areas : List Area) (lost : Bool) (rest : List Symbol) (e : option_map {U = (List Area × Bool) × List Symbol} (λ f. (areas_of f.0, f.1)) (union_at S ss) ≡ Some ((areas, lost), rest)) where
    -- what was read
    the_read : UnionRead ss areas lost rest
    the_read = union_given ss areas lost rest e

    -- it is spelled so
    the_spelled : Reads (SpellsUnion S) ss (the_read.references, rest)
    the_spelled = union_sound S ss (the_read.references, rest) the_read.read

    -- no more symbols are left than there were
    pub union_shorter : length rest ≤ length ss
    union_shorter = shorter (SpellsUnion S) ss (the_read.references, rest) the_spelled

    -- what is read
    references_are : references_at S ss ≡ Some (Reference (place_of (take (length ss - length rest) ss)) the_read.references, rest)
    unfolding references_at
    references_are = ap (option_and_then (λ (rs : List Referred × List Symbol). Some (Reference (place_of (take (length ss - length rs.1) ss)) rs.0, rs.1))) the_read.read

    -- where it stands
    pub record UnionStands (at : Span) : Type 0 where
      pub forward : at.start ≤ at.end
      pub starts : (from : ℕ) → InOrder from ss → from ≤ at.start
      pub ends : (from : ℕ) → InOrder from ss → InOrder at.end rest

    -- the references stand in front of the rest
    pub union_stands : AreSymbols S.text ss → UnionStands (place_of (take (length ss - length rest) ss))
    union_stands are =
        let r = the_spelled in
        let b = leaf_begins (leaves.reference r.spells) in
        let used : take (length ss - length rest) ss ≡ b.front ∷ b.behind = ap (λ c. take (length c - length rest) c) r.parts ∙ before_rest S r.used rest ∙ b.is in
        let parts : ss ≡ b.front ∷ (b.behind ++ rest) = r.parts ∙ ap (λ c. c ++ rest) b.is in
        let all : AreSymbols S.text (b.front ∷ (b.behind ++ rest)) = subst (AreSymbols S.text) parts are in
        subst (λ c. UnionStands (place_of c)) (sym used) (record {
          forward = (order_split S.text 0 b.front b.behind rest all.0 all.1).0;
          starts = λ from order. (first_behind b.front (b.behind ++ rest) ss from parts order).0;
          ends = λ from order. (order_split S.text from b.front b.behind rest all.0 (subst (InOrder from) parts order)).1;
        })

    -- a union with a sheet that there isn't
    pub union_lost : lost ≡ true → (p : Part) → p.place ≡ place_of (take (length ss - length rest) ss) → ((tree : Option Tree) → p.branch ≡ branch tree 1 (record { lost = true; miscounted = false; wide = false }))
        → leaf_found (references_at S ss) ≡ Some (p, rest)
    union_lost is p place made =
        let at = place_of (take (length ss - length rest) ss) in
        let t = Reference at the_read.references in
        let unlisted : true ≡ some_unlisted the_read.references = sym is ∙ the_read.lost_is in
        let same : p.branch ≡ branch_of t = made (Some t) ∙ ap (λ b. branch (Some t) 1 (record { lost = b; miscounted = false; wide = false })) unlisted in
        ap leaf_found references_are
        ∙ ap (λ (b : Branch). let x : Part × List Symbol = (record { branch = b; place = at }, rest) in Some x) (sym same)
        ∙ ap (λ (q : Span). let x : Part × List Symbol = (record { branch = p.branch; place = q }, rest) in Some x) (sym place)

    -- a union of listed sheets
    pub union_listed : lost ≡ false → (p : Part) → p ≡ leaf_part (Reference (place_of (take (length ss - length rest) ss)) (map Listed areas)) → leaf_found (references_at S ss) ≡ Some (p, rest)
    union_listed is p made =
        let at = place_of (take (length ss - length rest) ss) in
        let same : the_read.references ≡ map Listed areas = all_listed the_read.references (sym the_read.lost_is ∙ is) ∙ ap (map Listed) (sym the_read.areas_are) in
        ap leaf_found references_are ∙ ap (λ rs. Some (leaf_part (Reference at rs), rest)) same ∙ ap (λ (q : Part). Some (q, rest)) (sym made)

    -- it has at least one area
    pub union_some : lost ≡ false → 0 < length (map Listed areas)
    union_some is =
        let same : the_read.references ≡ map Listed areas = all_listed the_read.references (sym the_read.lost_is ∙ is) ∙ ap (map Listed) (sym the_read.areas_are) in
        subst (λ rs. 0 < length rs) same (spelled_some the_spelled.spells)

    -- either stands in front of the rest
    pub union_front : AreSymbols S.text ss → (p : Part) → leaf_found (references_at S ss) ≡ Some (p, rest) → IsInFront ss p rest
    union_front are p given =
        let stands = union_stands are in
        let at = place_of (take (length ss - length rest) ss) in
        let t = Reference at the_read.references in
        let same : leaf_part t ≡ p = ap (λ (f : Part × List Symbol). f.0) (some_is (leaf_part t, rest) (p, rest) (sym (ap leaf_found references_are) ∙ given)) in
        subst (λ (q : Part). IsInFront ss q rest) same (record { placed = leaf_placed t stands.forward; starts = stands.starts; ends = stands.ends })
