-- Lengths, marks and groups of a statement, and its goal.
use Rattle.std.proofs.Common.{◌≡◌, ◌<◌, ◌≤◌, ◌+◌, ℕ, suc, Bool, true, false, cond, List, [], ◌∷◌, map, length, Option, Some, None, refl, ap, ◌∙◌, arith}
use Rattle.std.specs.Prelude.{All, option_map, slice_index}
use Rattle.std.specs.List.{AllByRecursion, AllZip}
use Rattle.std.proofs.lemmas.List.Elements.{All-from_recursion}
use Rattle.std.proofs.lemmas.Option.{slice_get-get_or}
use Rattle.optimality.specs.Problem.{Goal, greatest}
use Rattle.cell_refs.specs.declared.cell.Cell.{Cell}
use Rattle.affine_forms.specs.Forms.{AffineForm}
use Rattle.optimality.specs.declared.kinds.Relation.{Relation}
use Rattle.linear_models.specs.Agreement.{IsGroupIn}
use Rattle.linear_models.specs.Conditions.{goal_or_greatest, objective_where}
use Rattle.linear_models.specs.Statement.{IsOnce}
use Rattle.cell_refs.specs.declared.place.Place.{Place}
use Rattle.solver_names.specs.Faults.{decisions_of, faults, first}
use Rattle.solver_names.specs.Read.{Read}
use Rattle.solver_names.specs.Stated.{different, numbered, numbers_from}
use Rattle.solver_names.proofs.GroupLaws.{AreDistinct, members_below, members_distinct}

-- ---- lengths
pub zip_length : {A B C : Type 0} (R : A → B → Type 0) (f : A → C) (xs : List A) (ys : List B) → AllZip R xs ys → length ys ≡ length (map f xs)
zip_length R f [] [] h = refl
zip_length R f [] (y ∷ ys) h = absurd h
zip_length R f (x ∷ xs) [] h = absurd h
zip_length R f (x ∷ xs) (y ∷ ys) h = ap suc (zip_length R f xs ys h.1)

pub numbered_length : (n : ℕ) (rows : List (Relation × Cell × Place)) → length (numbered n rows) ≡ length rows
numbered_length n [] = refl
numbered_length n (row ∷ rows) = ap suc (numbered_length (suc n) rows)

-- ---- marks
numbers_below : (most n : ℕ) (test : Cell → Bool) (cells : List Cell) → n + length cells ≤ most → AllByRecursion (λ j. j < most) (numbers_from n test cells)
numbers_below most n test [] h = tt
numbers_below most n test (cell ∷ cells) h = by_mark (test cell) (numbers_below most (suc n) test cells (omega (arith, h)))
  where
    by_mark : (b : Bool) → AllByRecursion (λ j. j < most) (numbers_from (suc n) test cells) → AllByRecursion (λ j. j < most) (cond b (n ∷ numbers_from (suc n) test cells) (numbers_from (suc n) test cells))
    by_mark true rest = (omega (arith, h), rest)
    by_mark false rest = rest

pub all_below : (test : Cell → Bool) (cells : List Cell) → All (λ j. j < length cells) (numbers_from 0 test cells)
all_below test cells = All-from_recursion (λ j. j < length cells) (numbers_from 0 test cells) (numbers_below (length cells) 0 test cells (omega arith))

-- ---- groups
once : (js : List ℕ) → AreDistinct ℕ js → IsOnce js
once js own i k h l e = own i k (slice_index js k) (slice_get-get_or js i 0 h ∙ ap Some e) (slice_get-get_or js k 0 l)

groups_in : (n : ℕ) (groups : List (List ℕ)) → AllByRecursion (AllByRecursion (λ j. j < n)) groups → AllByRecursion (AreDistinct ℕ) groups → AllByRecursion (IsGroupIn n) groups
groups_in n [] below own = tt
groups_in n (g ∷ groups) below own = (record { below = All-from_recursion (λ j. j < n) g below.0; once = once g own.0 }, groups_in n groups below.1 own.1)

pub groups_fit : (r : Read) → first (faults r) ≡ None → All (IsGroupIn (length (decisions_of r))) (different r.constraints (decisions_of r))
groups_fit r none =
    let n = length (decisions_of r) in
    let groups = different r.constraints (decisions_of r) in
    All-from_recursion (IsGroupIn n) groups (groups_in n groups (members_below r none) (members_distinct r none))

-- ---- goals
pub no_goal : (o : Option Cell) (g : Goal) (objective : AffineForm) → objective_where (option_map (λ (c : Cell). g) o) objective ≡ None → goal_or_greatest (option_map (λ (c : Cell). g) o) ≡ greatest
no_goal None g objective e = refl
no_goal (Some c) g objective e = cc
