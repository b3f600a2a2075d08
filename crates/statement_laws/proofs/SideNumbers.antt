-- The sides of a sheet's names: each has its own number, and each expression is there.
use Rattle.std.proofs.Common.{◌≡◌, ◌<◌, ◌≤◌, ◌+◌, ℕ, zero, suc, Bool, true, false, cond, List, [], ◌∷◌, ◌++◌, map, flat_map, length, Some, None, refl, ap, ◌∙◌, eq-eqb, arith}
use Rattle.std.specs.Prelude.{◌==◌, IsSome, find, is_some, option_map, slice_get}
use Rattle.std.specs.List.{AllByRecursion, range_with_len}
use Rattle.formula_ast.specs.Tree.{Tree}
use Rattle.recalculation.proofs.Lists.{each_weaker}
use Rattle.sheet_problems.specs.Places.{Sides, tree_of}
use Rattle.solver_names.specs.Constraints.{code_said, constraint, right_said}
use Rattle.solver_names.specs.Sides.{side_tree}
use Rattle.solver_names.specs.Texts.{area_or_tree, by_form}
use Rattle.workbook.specs.State.{State}
use Rattle.statement_laws.specs.Laws.{HaveOwnNumbers}
use Rattle.statement_laws.proofs.SaidKinds.{Constraint, Said, Side, by_right}

-- ---- numbers that rise
abbrev Rise : ℕ → Sides → Type 0
Rise n [] = Unit {0}
Rise n (s ∷ sides) = (n ≤ s.0) × Rise (suc s.0) sides

lower : (n m : ℕ) (sides : Sides) → m ≤ n → Rise n sides → Rise m sides
lower n m [] less h = tt
lower n m (s ∷ sides) less h = (omega (arith, less, h.0), h.1)

from_on : (n : ℕ) (sides : Sides) (i : ℕ) (s : ℕ × Tree) → Rise n sides → slice_get sides i ≡ Some s → n ≤ s.0
from_on n [] i s h e = absurd cc
from_on n (x ∷ sides) zero s h e = let same : x ≡ s = cc in omega (arith, h.0, ap (λ (y : ℕ × Tree). y.0) same)
from_on n (x ∷ sides) (suc i) s h e = let less = from_on (suc x.0) sides i s h.1 e in omega (arith, h.0, less)

own_numbers : (n : ℕ) (sides : Sides) → Rise n sides → HaveOwnNumbers sides
own_numbers n [] h i j s t e f same = absurd cc
own_numbers n (x ∷ sides) h zero zero s t e f same = refl
own_numbers n (x ∷ sides) h zero (suc j) s t e f same =
    let first : x ≡ s = cc in
    let less = from_on (suc x.0) sides j t h.1 f in
    absurd (omega (arith, less, same, ap (λ (y : ℕ × Tree). y.0) first))
own_numbers n (x ∷ sides) h (suc i) zero s t e f same =
    let first : x ≡ t = cc in
    let less = from_on (suc x.0) sides i s h.1 e in
    absurd (omega (arith, less, same, ap (λ (y : ℕ × Tree). y.0) first))
own_numbers n (x ∷ sides) h (suc i) (suc j) s t e f same = ap suc (own_numbers (suc x.0) sides h.1 i j s t e f same)

-- ---- sides of constraints
at_front : (k : ℕ) (t : Tree) (sides : Sides) → IsSome (tree_of ((k, t) ∷ sides) k)
at_front k t sides =
    ap (λ b. is_some (option_map (λ (s : ℕ × Tree). s.1) (cond b (Some (k, t)) (find (λ (s : ℕ × Tree). s.0 == k) sides)))) (eq-eqb k k refl)

behind : (before sides : Sides) (k : ℕ) → IsSome (tree_of sides k) → IsSome (tree_of (before ++ sides) k)
behind [] sides k h = h
behind (s ∷ before) sides k h = by (s.0 == k) (behind before sides k h)
  where
    by : (b : Bool) → IsSome (tree_of (before ++ sides) k) → is_some (option_map (λ (s : ℕ × Tree). s.1) (cond b (Some s) (find (λ (s : ℕ × Tree). s.0 == k) (before ++ sides)))) ≡ true
    by true there = refl
    by false there = there

module _ (book : State) (sheet : ℕ) where
  abbrev right_of : ℕ → Said Side
  right_of k = right_said book sheet k (code_said book sheet k)

  -- the sides of the constraints of these numbers
  abbrev pub sides_of : List ℕ → Sides
  sides_of ks = flat_map (λ (c : Constraint). side_tree book sheet c.k c.right) (map (constraint book sheet) ks)

  module _ (there : sheet < length book.sheets) where
    sides_rise : (n k : ℕ) → Rise k (sides_of (range_with_len k n))
    sides_rise zero k = tt
    sides_rise (suc n) k = by (sides_of (range_with_len (k + 1) n)) (sides_rise n (k + 1))
      where
        by : (others : Sides) → Rise (k + 1) others → Rise k (side_tree book sheet k (right_of k) ++ others)
        by others h =
            by_right book sheet there (λ right. Rise k (side_tree book sheet k right ++ others)) (lower (k + 1) k others (omega arith) h) (lower (k + 1) k others (omega arith) h)
            (λ a lies. lower (k + 1) k others (omega arith) h) (λ t. (omega arith, lower (k + 1) (suc k) others (omega arith) h)) k (code_said book sheet k)

    pub sides_own : (count : ℕ) → HaveOwnNumbers (sides_of (range_with_len 1 count))
    sides_own count = own_numbers 1 (sides_of (range_with_len 1 count)) (sides_rise count 1)

  -- ---- sides that are there
  -- the side of a constraint is there, where it is an expression
  abbrev pub HasSide : Sides → ℕ → Type 0
  HasSide sides k = (t : Tree) → right_of k ≡ by_form (area_or_tree None (Some t)) → IsSome (tree_of sides k)

  pub sides_there : (ks : List ℕ) → AllByRecursion (HasSide (sides_of ks)) ks
  sides_there [] = tt
  sides_there (k ∷ ks) =
      let sides = sides_of ks in (
        λ t e. ap (λ right. is_some (tree_of (side_tree book sheet k right ++ sides) k)) e ∙ at_front k _ sides,
        each_weaker (HasSide sides) (HasSide (sides_of (k ∷ ks))) (λ j h t e. behind (side_tree book sheet k (right_of k)) sides j (h t e)) ks (sides_there ks),
      )
