-- The workbook into which an optimum is written, recalculated.
use Rattle.std.proofs.Common.{◌≡◌, ◌∙◌, ◌<◌, refl, ap, sym, subst, arith, ℕ, zero, suc, List, [], ◌∷◌, length, map, Option, Some, None}
use Rattle.std.specs.Prelude.{All, option_map, pos, slice_get, slice_index}
use Rattle.std.specs.List.{AllByRecursion}
use Rattle.std.specs.Option.{option_and_then}
use Rattle.std.proofs.lemmas.List.Elements.{All-cons, All-from_recursion, All-get_or, All-head, All-nil, All-tail, All-weaker, recursion_from_All}
use Rattle.std.proofs.lemmas.Option.{slice_get-get_or}
use Rattle.fractions.specs.Rational.{ℚ, zero_ℚ}
use Rattle.fractions.specs.Vectors.{at}
use Rattle.fractions.specs.Whole.{whole_ℚ}
use Rattle.cell_refs.specs.declared.cell.Cell.{Cell}
use Rattle.optimality.specs.Problem.{Assignment, Goal, Row, greatest, least, reach}
use Rattle.optimality.specs.Groups.{HoldsEachOnce, held_at}
use Rattle.optimality.specs.Optimal.{Has, IsNotNegative, IsWhole, IsZeroOrOne, Meets, Permitted, Reaches}
use Rattle.recalculation.specs.Entries.{no_overriding}
use Rattle.workbook.specs.Kinds.{book_of}
use Rattle.workbook.specs.State.{State}
use Rattle.cell_refs.specs.declared.place.Place.{Place}
use Rattle.cell_refs.specs.declared.place.Place.TheVariants as place
use Rattle.solver_names.specs.Sides.{sides_in}
use Rattle.solver_names.specs.Statement.{RowOf, Statement}
use Rattle.commands.specs.FromSheetProblems.{number_in, put_over, tree_of, value_at, worth_at}
use Rattle.commands.specs.FromSheetProblems.{not_negative_in, problem_in, row_of}
use Rattle.commands.proofs.FromSheetProblems.{decision_is_its_number}
use Rattle.write_back.specs.Writing.{AreDistinct, with_numbers}
use Rattle.write_back.proofs.Contents.{own_place}
use Rattle.sheet_solving.specs.Inner.{IsWritten, told_of}
use Rattle.sheet_solving.specs.Solving.{DecisionHas, CellsHoldEachOnce, Holds, IsNumber, IsReached, IsSolved, MeetsAll, number_now}
use Rattle.sheet_solving.proofs.Meaning.{IsBest}

-- ---- lists
-- the element at a place
at_of : (xs : List ℚ) (j : ℕ) (x : ℚ) → slice_get xs j ≡ Some x → at xs j ≡ x
at_of [] j x h = absurd cc
at_of (y ∷ xs) zero x h = cc
at_of (y ∷ xs) (suc j) x h = at_of xs j x h

less : (i j : ℕ) → suc i ≡ suc j → i ≡ j
less i j e = omega arith

-- a list of the same length has an element there too
also_there : (xs : List ℚ) (cells : List Cell) (j : ℕ) (x : ℚ) → length xs ≡ length cells → slice_get xs j ≡ Some x → slice_get cells j ≡ None → ⊥
also_there [] cells j x e h k = cc
also_there (y ∷ xs) [] j x e h k = omega (arith, e)
also_there (y ∷ xs) (c ∷ cells) zero x e h k = cc
also_there (y ∷ xs) (c ∷ cells) (suc j) x e h k = also_there xs cells j x (less _ _ e) h k

-- ---- what is kept
-- the right sides that are expressions stand in names, which are as before
same_sides : (before after : State) (sheet : ℕ) (cells : List Cell) (numbers : List ℚ) → after ≡ with_numbers before cells numbers → sides_in after sheet ≡ sides_in before sheet
same_sides before after sheet cells numbers e = ap (λ (book : State). sides_in book sheet) e

module _ (before after : State) (s : Statement) (numbers : Assignment) (is : IsWritten before after s numbers) where
  -- every cell and every right side is what it was under the numbers
  keeps : (p : Place) → value_at (book_of after) (sides_in after s.sheet) no_overriding p ≡ value_at (book_of before) (sides_in before s.sheet) (put_over s.decisions numbers) p
  keeps (place.Cell c) = ap Some (is.recalculated c)
  keeps (place.Side k) = λ i. option_map (λ t. is.sides t i) (tree_of (same_sides before after s.sheet s.decisions numbers is.written i) k)

  -- so is the number that it counts as
  keeps_number : (p : Place) → number_now after s p ≡ worth_at (book_of before) (sides_in before s.sheet) s.decisions p numbers
  keeps_number p = ap (option_and_then number_in) (keeps p)

  abbrev before_of : RowOf → Row
  before_of r = row_of (book_of before) (sides_in before s.sheet) s r

  -- a row that holds under the numbers holds in the workbook as it is now
  row_holds : (r : RowOf) → Meets numbers (before_of r) → Holds after s r
  row_holds r h = record {
    left = h.left;
    right = h.right;
    left_is = keeps_number (place.Cell r.left) ∙ h.left_is;
    right_is = keeps_number r.right ∙ h.right_is;
    stand = h.stand;
  }

  rows_hold : (rows : List RowOf) → All (Meets numbers) (map before_of rows) → All (Holds after s) rows
  rows_hold [] h = All-nil (Holds after s)
  rows_hold (r ∷ rows) h =
      All-cons (Holds after s) r rows (row_holds r (All-head (Meets numbers) (before_of r) (map before_of rows) h))
      (rows_hold rows (All-tail (Meets numbers) (before_of r) (map before_of rows) h))

  -- a decision cell has its number
  decision_has : AreDistinct s.decisions → length numbers ≡ length s.decisions → (P : ℚ → Type 0) (j : ℕ) → Has P numbers j → DecisionHas P after s j
  decision_has distinct long P j h = by (slice_get s.decisions j) refl
    where
      by : (o : Option Cell) → slice_get s.decisions j ≡ o → DecisionHas P after s j
      by None e = absurd (also_there numbers s.decisions j h.0 long h.1 e)
      by (Some c) e =
          let own : worth_at (book_of before) (sides_in before s.sheet) s.decisions (place.Cell c) numbers ≡ Some (at numbers j) =
          decision_is_its_number (book_of before) (sides_in before s.sheet) s.decisions c j (own_place s.decisions j c distinct e) numbers in
          (c, h.0, e, keeps_number (place.Cell c) ∙ (own ∙ ap Some (at_of numbers j h.0 h.1)), h.2)

  -- what a decision cell has, its number has
  has_decision : AreDistinct s.decisions → (P : ℚ → Type 0) (j : ℕ) → DecisionHas P after s j → P (at numbers j)
  has_decision distinct P j h =
      let own : worth_at (book_of before) (sides_in before s.sheet) s.decisions (place.Cell h.0) numbers ≡ Some (at numbers j) =
      decision_is_its_number (book_of before) (sides_in before s.sheet) s.decisions h.0 j (own_place s.decisions j h.0 distinct h.2) numbers in
      let now : Some h.1 ≡ Some (at numbers j) = sym h.3 ∙ keeps_number (place.Cell h.0) ∙ own in
      let same : h.1 ≡ at numbers j = cc in
      subst P same h.4

  -- a group that holds its numbers, each once, under the numbers holds them in the workbook as it is now
  group_holds : AreDistinct s.decisions → length numbers ≡ length s.decisions → (group : List ℕ) → All (λ j. j < length s.decisions) group → HoldsEachOnce numbers group → CellsHoldEachOnce after s group
  group_holds distinct long group below h = record {
    within = λ i l. let w = h.within i l in (w.0, w.1, w.2, there w.0 i l w.3);
    each = λ n a b. let w = h.each n a b in (w.0, w.1, there n w.0 w.1 w.2);
    once = λ i k n l m a b. h.once.apart i k l m (has_decision distinct (IsNumber n) (slice_index group i) a ∙ sym (has_decision distinct (IsNumber n) (slice_index group k) b));
  }
    where
      there : (n i : ℕ) → i < length group → held_at numbers group i ≡ whole_ℚ (pos n) → DecisionHas (IsNumber n) after s (slice_index group i)
      there n i l e =
          decision_has distinct long (IsNumber n) (slice_index group i)
          (held_at numbers group i, slice_get-get_or numbers (slice_index group i) zero_ℚ (let b : slice_index group i < length s.decisions = All-get_or (λ j. j < length s.decisions) group i 0 l below in omega (arith, b, long)), e)

  groups_hold : AreDistinct s.decisions → length numbers ≡ length s.decisions → (groups : List (List ℕ)) → AllByRecursion (All (λ j. j < length s.decisions)) groups → AllByRecursion (HoldsEachOnce numbers) groups
      → AllByRecursion (CellsHoldEachOnce after s) groups
  groups_hold distinct long [] below h = tt
  groups_hold distinct long (g ∷ groups) below h =
      (group_holds distinct long g below.0 h.0, groups_hold distinct long groups below.1 h.1)

  -- a value that the objective reaches under the numbers it has in the workbook as it is now
  is_reached : (goal : Goal) (objective : Option Cell)
      → Reaches goal (option_map (λ c. worth_at (book_of before) (sides_in before s.sheet) s.decisions (place.Cell c)) objective) numbers → IsReached after s goal objective
  is_reached greatest objective h = tt
  is_reached least objective h = tt
  is_reached (reach v) None h = tt
  is_reached (reach v) (Some c) h = keeps_number (place.Cell c) ∙ h

  -- so what is permitted holds in the workbook
  meets_all : AreDistinct s.decisions → All (All (λ j. j < length s.decisions)) s.different → Permitted (problem_in before s) numbers → MeetsAll after s
  meets_all distinct members permitted = record {
    rows = rows_hold s.rows permitted.rows;
    whole = All-weaker (Has IsWhole numbers) (DecisionHas IsWhole after s) (decision_has distinct permitted.one_each IsWhole) s.whole permitted.whole;
    binary = All-weaker (Has IsZeroOrOne numbers) (DecisionHas IsZeroOrOne after s) (decision_has distinct permitted.one_each IsZeroOrOne) s.binary permitted.binary;
    numbered = All-from_recursion (CellsHoldEachOnce after s) s.different
        (groups_hold distinct permitted.one_each s.different (recursion_from_All (All (λ j. j < length s.decisions)) s.different members) (recursion_from_All (HoldsEachOnce numbers) s.different permitted.numbered));
    reached = is_reached s.goal s.objective permitted.reached;
    not_negative =
        All-weaker (Has IsNotNegative numbers) (DecisionHas IsNotNegative after s) (decision_has distinct permitted.one_each IsNotNegative) (not_negative_in s) permitted.not_negative;
  }

  -- an optimum of the sheet that is written, with the objective's number
  pub is_solved : (v : ℚ) (value : Option ℚ) → AreDistinct s.decisions → All (All (λ j. j < length s.decisions)) s.different → IsBest before s numbers v → value ≡ told_of s v → IsSolved before after s numbers value
  is_solved v value distinct members best told = record {
    optimal = best.optimal;
    worth = best.worth ∙ sym told;
    room = is.room;
    written = is.written;
    recalculated = keeps;
    meets = meets_all distinct members best.optimal.permitted;
  }
