-- The forms of a sheet's statement fit its conditions.
use Rattle.std.proofs.Common.{◌≡◌, ◌<◌, ◌≤◌, ◌+◌, ℕ, suc, Bool, true, false, cond, List, [], ◌∷◌, map, length, Option, Some, None, refl, sym, ap, subst, ◌∙◌, arith}
use Rattle.std.specs.Prelude.{All, option_map, slice_index}
use Rattle.std.specs.List.{AllByRecursion, AllZip}
use Rattle.std.specs.Option.{option_and_then}
use Rattle.std.proofs.lemmas.List.Elements.{All-from_recursion}
use Rattle.std.proofs.lemmas.Option.{slice_get-get_or}
use Rattle.optimality.specs.Problem.{Goal, greatest}
use Rattle.cell_refs.specs.declared.cell.Cell.{Cell}
use Rattle.affine_forms.specs.Assigned.{ReachTo}
use Rattle.affine_forms.specs.Forms.{AffineForm, decision_form}
use Rattle.optimality.specs.declared.kinds.Relation.{Relation}
use Rattle.linear_models.specs.Agreement.{Fits, IsGroupIn, IsOwn, SidesReach}
use Rattle.linear_models.specs.Conditions.{constraint_of, constraints, goal_or_greatest, objective_where}
use Rattle.linear_models.specs.Statement.{IsOnce}
use Rattle.form_extraction.specs.FromRecalculation.{Book}
use Rattle.workbook.specs.Kinds.{book_of}
use Rattle.cell_refs.specs.declared.place.Place.{Place}
use Rattle.cell_refs.specs.declared.place.Place.TheVariants as place
use Rattle.form_extraction.specs.Places.{form_in, numbered_in}
use Rattle.form_extraction.proofs.States.{decision_is_itself}
use Rattle.solver_names.specs.Faults.{all_rows, decisions_of, faults, first}
use Rattle.solver_names.specs.Read.{Read, read_in}
use Rattle.solver_names.specs.Sides.{sides_in}
use Rattle.solver_names.specs.Statement.{RowOf, Statement}
use Rattle.solver_names.specs.Stated.{different, numbered, numbers_from, stated}
use Rattle.solver_names.proofs.GroupLaws.{AreDistinct, members_below, members_distinct}
use Rattle.solver_names.proofs.NoFaults.{few_decisions, few_rows}
use Rattle.solver_names.proofs.Faultless.{no_fault}
use Rattle.sheet_problems.specs.Forms.{HasForm, HasForms, HasSides, condition_of, conditions_of, number_form}
use Rattle.sheet_problems.specs.Laws.{FormsFit}
use Rattle.sheet_problems.specs.Places.{Sides}
use Rattle.sheet_problems.proofs.Numbers.{number_below}
use Rattle.sheet_problems.proofs.Placed.{place_reaches}

-- ---- lengths
zip_length : {A B C : Type 0} (R : A → B → Type 0) (f : A → C) (xs : List A) (ys : List B) → AllZip R xs ys → length ys ≡ length (map f xs)
zip_length R f [] [] h = refl
zip_length R f [] (y ∷ ys) h = absurd h
zip_length R f (x ∷ xs) [] h = absurd h
zip_length R f (x ∷ xs) (y ∷ ys) h = ap suc (zip_length R f xs ys h.1)

numbered_length : (n : ℕ) (rows : List (Relation × Cell × Place)) → length (numbered n rows) ≡ length rows
numbered_length n [] = refl
numbered_length n (row ∷ rows) = ap suc (numbered_length (suc n) rows)

-- ---- marks
numbers_below : (most n : ℕ) (test : Cell → Bool) (cells : List Cell) → n + length cells ≤ most → AllByRecursion (λ j. j < most) (numbers_from n test cells)
numbers_below most n test [] h = tt
numbers_below most n test (cell ∷ cells) h = by_mark (test cell) (numbers_below most (suc n) test cells (omega (arith, h)))
  where
    by_mark : (b : Bool) → AllByRecursion (λ j. j < most) (numbers_from (suc n) test cells) → AllByRecursion (λ j. j < most) (cond b (n ∷ numbers_from (suc n) test cells) (numbers_from (suc n) test cells))
    by_mark true rest = (omega (arith, h), rest)
    by_mark false rest = rest

all_below : (test : Cell → Bool) (cells : List Cell) → All (λ j. j < length cells) (numbers_from 0 test cells)
all_below test cells = All-from_recursion (λ j. j < length cells) (numbers_from 0 test cells) (numbers_below (length cells) 0 test cells (omega arith))

-- ---- groups
once : (js : List ℕ) → AreDistinct ℕ js → IsOnce js
once js own i k h l e = own i k (slice_index js k) (slice_get-get_or js i 0 h ∙ ap Some e) (slice_get-get_or js k 0 l)

groups_in : (n : ℕ) (groups : List (List ℕ)) → AllByRecursion (AllByRecursion (λ j. j < n)) groups → AllByRecursion (AreDistinct ℕ) groups → AllByRecursion (IsGroupIn n) groups
groups_in n [] below own = tt
groups_in n (g ∷ groups) below own = (record { below = All-from_recursion (λ j. j < n) g below.0; once = once g own.0 }, groups_in n groups below.1 own.1)

groups_fit : (r : Read) → first (faults r) ≡ None → All (IsGroupIn (length (decisions_of r))) (different r.constraints (decisions_of r))
groups_fit r none =
    let n = length (decisions_of r) in
    let groups = different r.constraints (decisions_of r) in
    All-from_recursion (IsGroupIn n) groups (groups_in n groups (members_below r none) (members_distinct r none))

-- ---- rows
module _ (book : Book) (sides : Sides) (decisions : List Cell) where
  own : (r : RowOf) (forms : AffineForm × AffineForm) → HasSides book sides decisions r forms → IsOwn (length decisions) (constraint_of (condition_of decisions r) forms)
  own r forms h j e =
      let is : Some (decision_form j) ≡ Some forms.0 = sym (ap (λ o. option_and_then number_form (form_in o)) (decision_is_itself book (numbered_in decisions) r.left j e)) ∙ h.left in
      let same : forms.0 ≡ decision_form j = cc in
      ((number_below decisions r.left j e), same)

  reach : (r : RowOf) (forms : AffineForm × AffineForm) → HasSides book sides decisions r forms → SidesReach (length decisions) (constraint_of (condition_of decisions r) forms)
  reach r forms h =
      record { left = place_reaches book sides decisions (place.Cell r.left) forms.0 h.left; right = place_reaches book sides decisions r.right forms.1 h.right }

  rows_length : (rs : List RowOf) (forms : List (AffineForm × AffineForm)) → AllZip (HasSides book sides decisions) rs forms
      → length (constraints (map (condition_of decisions) rs) forms) ≡ length rs
  rows_length [] [] h = refl
  rows_length [] (f ∷ fs) h = absurd h
  rows_length (r ∷ rs) [] h = absurd h
  rows_length (r ∷ rs) (f ∷ fs) h = ap suc (rows_length rs fs h.1)

  all_own : (rs : List RowOf) (forms : List (AffineForm × AffineForm)) → AllZip (HasSides book sides decisions) rs forms
      → AllByRecursion (IsOwn (length decisions)) (constraints (map (condition_of decisions) rs) forms)
  all_own [] [] h = tt
  all_own [] (f ∷ fs) h = absurd h
  all_own (r ∷ rs) [] h = absurd h
  all_own (r ∷ rs) (f ∷ fs) h = (own r f h.0, all_own rs fs h.1)

  all_reach : (rs : List RowOf) (forms : List (AffineForm × AffineForm)) → AllZip (HasSides book sides decisions) rs forms
      → AllByRecursion (SidesReach (length decisions)) (constraints (map (condition_of decisions) rs) forms)
  all_reach [] [] h = tt
  all_reach [] (f ∷ fs) h = absurd h
  all_reach (r ∷ rs) [] h = absurd h
  all_reach (r ∷ rs) (f ∷ fs) h = (reach r f h.0, all_reach rs fs h.1)

  objective_reaches : (o : Option Cell) (g : Goal) (objective f : AffineForm) → ((c : Cell) → o ≡ Some c → HasForm book sides decisions (place.Cell c) objective)
      → objective_where (option_map (λ (c : Cell). g) o) objective ≡ Some f → ReachTo f.terms (length decisions)
  objective_reaches None g objective f h e = cc
  objective_reaches (Some c) g objective f h e =
      let same : objective ≡ f = cc in subst (λ (f : AffineForm). ReachTo f.terms (length decisions)) same (place_reaches book sides decisions (place.Cell c) objective (h c refl))

no_goal : (o : Option Cell) (g : Goal) (objective : AffineForm) → objective_where (option_map (λ (c : Cell). g) o) objective ≡ None → goal_or_greatest (option_map (λ (c : Cell). g) o) ≡ greatest
no_goal None g objective e = refl
no_goal (Some c) g objective e = cc

-- ---- statements
fits : (book : Book) (sides : Sides) (sheet : ℕ) (r : Read) (objective : AffineForm) (rows : List (AffineForm × AffineForm)) → first (faults r) ≡ None
    → HasForms book sides (stated sheet r) objective rows → Fits (conditions_of (stated sheet r)) objective rows
fits book sides sheet r objective rows none h =
    let s : Statement = stated sheet r in
    let cs = constraints (map (condition_of s.decisions) s.rows) rows in (
      zip_length (HasSides book sides s.decisions) (condition_of s.decisions) s.rows rows h.rows,
      record {
        few = let few : length (decisions_of r) ≤ 512 = few_decisions r none in omega (arith, few);
        few_rows = omega (arith, few_rows r none, rows_length book sides s.decisions s.rows rows h.rows, numbered_length 1 (all_rows r.constraints));
        own = All-from_recursion (IsOwn (length s.decisions)) cs (all_own book sides s.decisions s.rows rows h.rows);
        sides = All-from_recursion (SidesReach (length s.decisions)) cs (all_reach book sides s.decisions s.rows rows h.rows);
        objective = λ f e. objective_reaches book sides s.decisions s.objective s.goal objective f h.objective e;
        whole = all_below _ s.decisions;
        binary = all_below _ s.decisions;
        groups = groups_fit r none;
        goal = no_goal s.objective s.goal objective;
      },
    )

pub forms_fit : FormsFit
forms_fit book sheet s objective rows h forms =
    let r = no_fault (stated sheet (read_in book sheet)) s (first (faults (read_in book sheet))) h in
    subst (λ t. HasForms (book_of book) (sides_in book t.sheet) t objective rows → Fits (conditions_of t) objective rows) r.1
    (λ forms. fits (book_of book) (sides_in book sheet) sheet (read_in book sheet) objective rows r.0 forms) forms
