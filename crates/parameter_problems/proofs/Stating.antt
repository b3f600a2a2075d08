-- The problem of a sheet whose parameters hold values.
use Rattle.std.proofs.Common.{◌≡◌, List, [], ◌∷◌, ◌++◌, map, length, Option, Some, None, refl, sym, ap, ap₂, subst, ◌∙◌}
use Rattle.std.specs.Prelude.{option_map}
use Rattle.std.specs.List.{AllZip}
use Rattle.std.specs.Option.{option_and_then}
use Rattle.optimality.specs.Problem.{Goal, greatest}
use Rattle.cell_refs.specs.declared.cell.Cell.{Cell}
use Rattle.recalculation.specs.Entries.{Book}
use Rattle.affine_forms.specs.Assigned.{assigned}
use Rattle.affine_forms.specs.Forms.{Assignment, AffineForm}
use Rattle.linear_models.specs.Conditions.{constraint_of, constraints, goal_or_greatest, objective_where}
use Rattle.linear_models.specs.Linear.{linear}
use Rattle.cell_refs.specs.declared.place.Place.{Place}
use Rattle.cell_refs.specs.declared.place.Place.TheVariants as place
use Rattle.solver_names.specs.Statement.{RowOf, Statement}
use Rattle.sheet_problems.specs.Forms.{HasForm, HasSides, condition_of, conditions_of}
use Rattle.sheet_problems.specs.Places.{Sides, number_in, worth_at}
use Rattle.sheet_problems.specs.SheetProblem.{not_negative_in, row_of}
use Rattle.sheet_problems.proofs.Placed.{place_worth}
use Rattle.parameter_laws.specs.Laws.{IsTheProblem}
use Rattle.parameter_laws.specs.Putting.{joined}
use Rattle.parameter_laws.specs.Statements.{row_with, statement_at, worth_with}
use Rattle.parameter_laws.proofs.Stated.{linear_with_values}
use Rattle.parameter_problems.specs.Laws.{OpenFormsStateTheProblem, QuickModelIsTheSheet}
use Rattle.parameter_problems.specs.Opened.{HoldsValues}
use Rattle.parameter_problems.proofs.Held.{held_is_overridden}

module _ (before after : Book) (sides : Sides) (s : Statement) (parameters : List Cell) (y : Assignment) (holds : HoldsValues before s.decisions parameters y after) where
  worth_is : (p : Place) (f : AffineForm) → HasForm before sides (s.decisions ++ parameters) p f → worth_at after sides s.decisions p ≡ worth_with (length s.decisions) y f
  worth_is p f h =
      λ i a. (ap (option_and_then number_in) (held_is_overridden before after sides s.decisions parameters y holds (assigned a) p)
      ∙ place_worth before sides (s.decisions ++ parameters) p f h (joined (length s.decisions) (assigned a) y)) i

  row_is : (r : RowOf) (forms : AffineForm × AffineForm) → HasSides before sides (s.decisions ++ parameters) r forms
      → row_of after sides s r ≡ row_with (length s.decisions) y (constraint_of (condition_of s.decisions r) forms)
  row_is r forms h =
      λ i. record { left = worth_is (place.Cell r.left) forms.0 h.left i; relation = r.relation; right = worth_is r.right forms.1 h.right i }

  rows_are : (rs : List RowOf) (forms : List (AffineForm × AffineForm)) → AllZip (HasSides before sides (s.decisions ++ parameters)) rs forms
      → map (row_of after sides s) rs ≡ map (row_with (length s.decisions) y) (constraints (map (condition_of s.decisions) rs) forms)
  rows_are [] [] h = refl
  rows_are [] (f ∷ fs) h = absurd h
  rows_are (r ∷ rs) [] h = absurd h
  rows_are (r ∷ rs) (f ∷ fs) h = ap₂ (λ x xs. x ∷ xs) (row_is r f h.0) (rows_are rs fs h.1)

  objective_is : (o : Option Cell) (g : Goal) (f : AffineForm) → ((c : Cell) → o ≡ Some c → HasForm before sides (s.decisions ++ parameters) (place.Cell c) f)
      → option_map (λ (c : Cell). worth_at after sides s.decisions (place.Cell c)) o
      ≡ option_map (worth_with (length s.decisions) y) (objective_where (option_map (λ (c : Cell). g) o) f)
  objective_is None g f h = refl
  objective_is (Some c) g f h = ap Some (worth_is (place.Cell c) f (h c refl))

goal_is : (o : Option Cell) (g : Goal) → (o ≡ None → g ≡ greatest) → g ≡ goal_or_greatest (option_map (λ (c : Cell). g) o)
goal_is None g h = h refl
goal_is (Some c) g h = refl

pub open_forms_state_the_problem : OpenFormsStateTheProblem
open_forms_state_the_problem before after sides s parameters y objective rows goal h holds =
    λ i. record {
      decisions = length s.decisions;
      rows = rows_are before after sides s parameters y holds s.rows rows h.rows i;
      whole = s.whole;
      binary = s.binary;
      not_negative = not_negative_in s;
      numbered = s.different;
      different = [];
      objective = objective_is before after sides s parameters y holds s.objective s.goal objective h.objective i;
      goal = goal_is s.objective s.goal goal i;
    }

pub quick_model_is_the_sheet : QuickModelIsTheSheet
quick_model_is_the_sheet before after sides s parameters y objective rows goal h fits holds =
    subst (λ p. IsTheProblem p (linear (statement_at (conditions_of s) y objective rows))) (sym (open_forms_state_the_problem before after sides s parameters y objective rows goal h holds))
    (linear_with_values (length parameters) (conditions_of s) y objective rows fits)
