-- The forms of a sheet's statement over decisions and parameters fit its conditions.
use Rattle.std.proofs.Common.{◌≡◌, ◌≤◌, ◌+◌, ℕ, suc, List, [], ◌∷◌, ◌++◌, map, length, Option, Some, None, refl, sym, ap, subst, ◌∙◌, arith, length-append}
use Rattle.std.specs.Prelude.{option_map, Ok}
use Rattle.std.specs.List.{AllByRecursion, AllZip}
use Rattle.std.specs.Option.{option_and_then}
use Rattle.std.proofs.lemmas.List.Elements.{All-from_recursion}
use Rattle.optimality.specs.Problem.{Goal, greatest}
use Rattle.cell_refs.specs.Cells.{is_same_cell}
use Rattle.cell_refs.specs.declared.cell.Cell.{Cell}
use Rattle.affine_forms.specs.Assigned.{ReachTo}
use Rattle.affine_forms.specs.Forms.{AffineForm, decision_form}
use Rattle.linear_models.specs.Agreement.{IsOwn, SidesReach}
use Rattle.linear_models.specs.Conditions.{constraint_of, constraints, objective_where}
use Rattle.recalculation.specs.Entries.{Book}
use Rattle.workbook.specs.Kinds.{book_of}
use Rattle.workbook.specs.State.{State}
use Rattle.cell_refs.specs.declared.place.Place.{Place}
use Rattle.cell_refs.specs.declared.place.Place.TheVariants as place
use Rattle.form_extraction.specs.Places.{form_in, numbered_in}
use Rattle.form_extraction.proofs.States.{decision_is_itself}
use Rattle.solver_names.specs.Faults.{all_rows, decisions_of, faults, first}
use Rattle.solver_names.specs.Read.{Read, read_in}
use Rattle.solver_names.specs.Sides.{sides_in}
use Rattle.solver_names.specs.Statement.{RowOf, Statement}
use Rattle.solver_names.specs.Stated.{stated, statement_in}
use Rattle.solver_names.proofs.NoFaults.{few_decisions, few_rows}
use Rattle.solver_names.proofs.Faultless.{no_fault, no_objective}
use Rattle.sheet_problems.specs.Forms.{HasForm, HasForms, HasSides, condition_of, conditions_of, number_form}
use Rattle.sheet_problems.specs.Places.{Sides}
use Rattle.sheet_problems.specs.SheetProblem.{problem_of}
use Rattle.parameter_problems.proofs.Counted.{all_below, groups_fit, no_goal, numbered_length, zip_length}
use Rattle.sheet_problems.proofs.Numbers.{number_below}
use Rattle.sheet_problems.proofs.Placed.{place_reaches}
use Rattle.linear_models.specs.Linear.{linear}
use Rattle.parameter_laws.specs.Laws.{IsTheProblem}
use Rattle.parameter_laws.specs.Statements.{FitsOver, statement_at}
use Rattle.parameter_problems.specs.Opened.{opened}
use Rattle.parameter_problems.specs.SheetLaws.{OpenFormsFit, QuickModelIsTheSheetsProblem}
use Rattle.parameter_problems.proofs.Numbering.{first_or, position_both}
use Rattle.parameter_problems.proofs.Stating.{quick_model_is_the_sheet}

-- ---- rows
module _ (book : Book) (sides : Sides) (decisions parameters : List Cell) where
  -- a decision cell has its number among both
  number_among : (c : Cell) (j : ℕ) → numbered_in decisions c ≡ Some j → numbered_in (decisions ++ parameters) c ≡ Some j
  number_among c j e = position_both (is_same_cell c) decisions parameters ∙ ap (λ o. first_or (length decisions) o (numbered_in parameters c)) e

  own : (r : RowOf) (forms : AffineForm × AffineForm) → HasSides book sides (decisions ++ parameters) r forms → IsOwn (length decisions) (constraint_of (condition_of decisions r) forms)
  own r forms h j e =
      let is : Some (decision_form j) ≡ Some forms.0 =
      sym (ap (λ o. option_and_then number_form (form_in o)) (decision_is_itself book (numbered_in (decisions ++ parameters)) r.left j (number_among r.left j e))) ∙ h.left in
      let same : forms.0 ≡ decision_form j = cc in
      ((number_below decisions r.left j e), same)

  reaches : (p : Place) (f : AffineForm) → HasForm book sides (decisions ++ parameters) p f → ReachTo f.terms (length decisions + length parameters)
  reaches p f h = subst (ReachTo f.terms) (length-append decisions parameters) (place_reaches book sides (decisions ++ parameters) p f h)

  rows_length : (rs : List RowOf) (forms : List (AffineForm × AffineForm)) → AllZip (HasSides book sides (decisions ++ parameters)) rs forms
      → length (constraints (map (condition_of decisions) rs) forms) ≡ length rs
  rows_length [] [] h = refl
  rows_length [] (f ∷ fs) h = absurd h
  rows_length (r ∷ rs) [] h = absurd h
  rows_length (r ∷ rs) (f ∷ fs) h = ap suc (rows_length rs fs h.1)

  all_own : (rs : List RowOf) (forms : List (AffineForm × AffineForm)) → AllZip (HasSides book sides (decisions ++ parameters)) rs forms
      → AllByRecursion (IsOwn (length decisions)) (constraints (map (condition_of decisions) rs) forms)
  all_own [] [] h = tt
  all_own [] (f ∷ fs) h = absurd h
  all_own (r ∷ rs) [] h = absurd h
  all_own (r ∷ rs) (f ∷ fs) h = (own r f h.0, all_own rs fs h.1)

  all_reach : (rs : List RowOf) (forms : List (AffineForm × AffineForm)) → AllZip (HasSides book sides (decisions ++ parameters)) rs forms
      → AllByRecursion (SidesReach (length decisions + length parameters)) (constraints (map (condition_of decisions) rs) forms)
  all_reach [] [] h = tt
  all_reach [] (f ∷ fs) h = absurd h
  all_reach (r ∷ rs) [] h = absurd h
  all_reach (r ∷ rs) (f ∷ fs) h = (record { left = reaches (place.Cell r.left) f.0 h.0.left; right = reaches r.right f.1 h.0.right }, all_reach rs fs h.1)

  objective_reaches : (o : Option Cell) (g : Goal) (objective f : AffineForm) → ((c : Cell) → o ≡ Some c → HasForm book sides (decisions ++ parameters) (place.Cell c) objective)
      → objective_where (option_map (λ (c : Cell). g) o) objective ≡ Some f → ReachTo f.terms (length decisions + length parameters)
  objective_reaches None g objective f h e = cc
  objective_reaches (Some c) g objective f h e =
      let same : objective ≡ f = cc in subst (λ (f : AffineForm). ReachTo f.terms (length decisions + length parameters)) same (reaches (place.Cell c) objective (h c refl))

-- ---- statements
fits : (book : Book) (sides : Sides) (sheet : ℕ) (r : Read) (parameters : List Cell) (objective : AffineForm) (rows : List (AffineForm × AffineForm)) → first (faults r) ≡ None
    → HasForms book sides (opened (stated sheet r) parameters) objective rows → FitsOver (length parameters) (conditions_of (stated sheet r)) objective rows
fits book sides sheet r parameters objective rows none h =
    let s : Statement = stated sheet r in
    let cs = constraints (map (condition_of s.decisions) s.rows) rows in (
      zip_length (HasSides book sides (s.decisions ++ parameters)) (condition_of s.decisions) s.rows rows h.rows,
      record {
        few = let few : length (decisions_of r) ≤ 512 = few_decisions r none in omega (arith, few);
        few_rows = omega (arith, few_rows r none, rows_length book sides s.decisions parameters s.rows rows h.rows, numbered_length 1 (all_rows r.constraints));
        own = All-from_recursion (IsOwn (length s.decisions)) cs (all_own book sides s.decisions parameters s.rows rows h.rows);
        sides = All-from_recursion (SidesReach (length s.decisions + length parameters)) cs (all_reach book sides s.decisions parameters s.rows rows h.rows);
        objective = λ f e. objective_reaches book sides s.decisions parameters s.objective s.goal objective f h.objective e;
        whole = all_below _ s.decisions;
        binary = all_below _ s.decisions;
        groups = groups_fit r none;
        goal = no_goal s.objective s.goal objective;
      },
    )

pub open_forms_fit : OpenFormsFit
open_forms_fit book sheet s parameters objective rows h forms =
    let r = no_fault (stated sheet (read_in book sheet)) s (first (faults (read_in book sheet))) h in
    subst (λ t. HasForms (book_of book) (sides_in book t.sheet) (opened t parameters) objective rows → FitsOver (length parameters) (conditions_of t) objective rows) r.1
    (λ forms. fits (book_of book) (sides_in book sheet) sheet (read_in book sheet) parameters objective rows r.0 forms) forms

-- where there is no objective, the greatest is wanted
goal_of : (book : State) (sheet : ℕ) (s : Statement) → statement_in book sheet ≡ Ok s → s.objective ≡ None → s.goal ≡ greatest
goal_of book sheet s h =
    let r = no_fault (stated sheet (read_in book sheet)) s (first (faults (read_in book sheet))) h in
    subst (λ (t : Statement). t.objective ≡ None → t.goal ≡ greatest) r.1 (no_objective sheet (read_in book sheet) r.0)

pub quick_model_is_the_sheets_problem : QuickModelIsTheSheetsProblem
quick_model_is_the_sheets_problem book after sheet s parameters y objective rows h same forms holds =
    subst (λ (sides : Sides). IsTheProblem (problem_of (book_of after) sides s) (linear (statement_at (conditions_of s) y objective rows))) (sym same)
    (quick_model_is_the_sheet (book_of book) (book_of after) (sides_in book s.sheet) s parameters y objective rows (goal_of book sheet s h) forms
    (open_forms_fit book sheet s parameters objective rows h forms) holds)
