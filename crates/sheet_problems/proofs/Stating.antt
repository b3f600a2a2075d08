-- The problem of a sheet is the one that its conditions state with the forms of its places.
use Rattle.std.proofs.Common.{◌≡◌, List, [], ◌∷◌, map, length, Option, Some, None, refl, ap, ap₂}
use Rattle.std.specs.Prelude.{option_map}
use Rattle.std.specs.List.{AllZip}
use Rattle.optimality.specs.Problem.{Goal, greatest}
use Rattle.cell_refs.specs.declared.cell.Cell.{Cell}
use Rattle.affine_forms.specs.Forms.{AffineForm}
use Rattle.linear_models.specs.Conditions.{constraint_of, constraints, goal_or_greatest, objective_where}
use Rattle.linear_models.specs.Statement.{row_of_sides}
use Rattle.linear_models.specs.Worths.{worth_of}
use Rattle.form_extraction.specs.FromRecalculation.{Book}
use Rattle.cell_refs.specs.declared.place.Place.TheVariants as place
use Rattle.solver_names.specs.Statement.{RowOf, Statement}
use Rattle.sheet_problems.specs.Forms.{HasForm, HasSides, condition_of}
use Rattle.sheet_problems.specs.Laws.{FormsStateTheProblem}
use Rattle.sheet_problems.specs.Places.{Sides, worth_at}
use Rattle.sheet_problems.specs.SheetProblem.{not_negative_in, row_of}
use Rattle.sheet_problems.proofs.Placed.{worth_is}

module _ (book : Book) (sides : Sides) (s : Statement) where
  row_is : (r : RowOf) (forms : AffineForm × AffineForm) → HasSides book sides s.decisions r forms
      → row_of book sides s r ≡ row_of_sides (constraint_of (condition_of s.decisions r) forms)
  row_is r forms h =
      λ i. record {
        left = worth_is book sides s.decisions (place.Cell r.left) forms.0 h.left i;
        relation = r.relation;
        right = worth_is book sides s.decisions r.right forms.1 h.right i;
      }

  rows_are : (rs : List RowOf) (forms : List (AffineForm × AffineForm)) → AllZip (HasSides book sides s.decisions) rs forms
      → map (row_of book sides s) rs ≡ map row_of_sides (constraints (map (condition_of s.decisions) rs) forms)
  rows_are [] [] h = refl
  rows_are [] (f ∷ fs) h = absurd h
  rows_are (r ∷ rs) [] h = absurd h
  rows_are (r ∷ rs) (f ∷ fs) h = ap₂ (λ x xs. x ∷ xs) (row_is r f h.0) (rows_are rs fs h.1)

  objective_is : (o : Option Cell) (g : Goal) (f : AffineForm) → ((c : Cell) → o ≡ Some c → HasForm book sides s.decisions (place.Cell c) f)
      → option_map (λ (c : Cell). worth_at book sides s.decisions (place.Cell c)) o ≡ option_map worth_of (objective_where (option_map (λ (c : Cell). g) o) f)
  objective_is None g f h = refl
  objective_is (Some c) g f h = ap Some (worth_is book sides s.decisions (place.Cell c) f (h c refl))

goal_is : (o : Option Cell) (g : Goal) → (o ≡ None → g ≡ greatest) → g ≡ goal_or_greatest (option_map (λ (c : Cell). g) o)
goal_is None g h = h refl
goal_is (Some c) g h = refl

pub forms_state_the_problem : FormsStateTheProblem
forms_state_the_problem book sides s objective rows goal h =
    λ i. record {
      decisions = length s.decisions;
      rows = rows_are book sides s s.rows rows h.rows i;
      whole = s.whole;
      binary = s.binary;
      not_negative = not_negative_in s;
      numbered = s.different;
      different = [];
      objective = objective_is book sides s s.objective s.goal objective h.objective i;
      goal = goal_is s.objective s.goal goal i;
    }
