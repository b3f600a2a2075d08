-- The problem of a sheet with the right side of one row greater is the one that its conditions state with that side's form greater.
use Rattle.std.proofs.Common.{◌≡◌, ℕ, Bool, true, false, refl, ap, ap₂, ◌∙◌, List, [], ◌∷◌, map, Some, None, cond}
use Rattle.std.specs.Prelude.{◌==◌}
use Rattle.std.specs.List.{AllZip}
use Rattle.fractions.specs.Rational.{ℚ, ◌+ℚ◌}
use Rattle.fractions.proofs.Quote.{quotes, by_ring}
use Rattle.optimality.specs.Problem.{Assignment, greatest}
use Rattle.affine_forms.specs.Assigned.{assigned}
use Rattle.affine_forms.specs.Forms.{AffineForm, sum_at}
use Rattle.linear_models.specs.Conditions.{constraint_of, constraints, statement_of}
use Rattle.linear_models.specs.Statement.{Constraint, row_of_sides, stated}
use Rattle.linear_models.specs.Worths.{form_at, worth_of}
use Rattle.recalculation.specs.Entries.{Book}
use Rattle.workbook.specs.Kinds.{book_of}
use Rattle.workbook.specs.State.{State}
use Rattle.cell_refs.specs.declared.place.Place.TheVariants as place
use Rattle.solver_names.specs.Sides.{sides_in}
use Rattle.solver_names.specs.Statement.{RowOf, Statement}
use Rattle.sheet_problems.specs.Forms.{HasForms, HasSides, condition_of, conditions_of}
use Rattle.sheet_problems.specs.Places.{Sides}
use Rattle.sheet_problems.specs.SheetProblem.{row_of, problem_in}
use Rattle.sheet_problems.proofs.Placed.{worth_is}
use Rattle.sheet_problems.proofs.Stating.{forms_state_the_problem}
use Rattle.sheet_prices.specs.Raised.{with_right, row_raised, problem_raised}
use Rattle.sheet_prices.proofs.Moved.{form_more, row_more, rows_more, statement_more}

form_is : (d : ℚ) (f : AffineForm) (a : Assignment) → form_at f a +ℚ d ≡ form_at (form_more d f) a
form_is d f a = moved f.constant (sum_at (assigned a) f.terms) d
  where
    moved : (c t d : ℚ) → (c +ℚ t) +ℚ d ≡ (c +ℚ d) +ℚ t
    moved c t d = by_ring (c ∷ t ∷ d ∷ []) (search quotes depth 20) (search quotes depth 20) refl

right_is : (d : ℚ) (c : Constraint) → with_right d (row_of_sides c) ≡ row_of_sides (row_more true d c)
right_is d c = λ i. record { left = worth_of c.left; relation = c.relation; right = λ a. Some (form_is d c.right a i) }

module _ (number : ℕ) (d : ℚ) (book : Book) (sides : Sides) (s : Statement) where
  row_is : (r : RowOf) (forms : AffineForm × AffineForm) → HasSides book sides s.decisions r forms
      → row_of book sides s r ≡ row_of_sides (constraint_of (condition_of s.decisions r) forms)
  row_is r forms h =
      λ i. record {
        left = worth_is book sides s.decisions (place.Cell r.left) forms.0 h.left i;
        relation = r.relation;
        right = worth_is book sides s.decisions r.right forms.1 h.right i;
      }

  raised_is : (b : Bool) (r : RowOf) (forms : AffineForm × AffineForm) → HasSides book sides s.decisions r forms
      → cond b (with_right d (row_of book sides s r)) (row_of book sides s r) ≡ row_of_sides (row_more b d (constraint_of (condition_of s.decisions r) forms))
  raised_is true r forms h = ap (with_right d) (row_is r forms h) ∙ right_is d (constraint_of (condition_of s.decisions r) forms)
  raised_is false r forms h = row_is r forms h

  rows_are : (rs : List RowOf) (forms : List (AffineForm × AffineForm)) → AllZip (HasSides book sides s.decisions) rs forms
      → map (row_raised number d book sides s) rs ≡ map row_of_sides (rows_more number d rs (constraints (map (condition_of s.decisions) rs) forms))
  rows_are [] [] h = refl
  rows_are [] (f ∷ fs) h = absurd h
  rows_are (r ∷ rs) [] h = absurd h
  rows_are (r ∷ rs) (f ∷ fs) h = ap₂ (λ x xs. x ∷ xs) (raised_is (r.number == number) r f h.0) (rows_are rs fs h.1)

pub raised_is_stated : (book : State) (s : Statement) (number : ℕ) (d : ℚ) (objective : AffineForm) (forms : List (AffineForm × AffineForm)) → (s.objective ≡ None → s.goal ≡ greatest)
    → HasForms (book_of book) (sides_in book s.sheet) s objective forms
    → problem_raised book s number d ≡ stated (statement_more number d s.rows (statement_of (conditions_of s) objective forms))
raised_is_stated book s number d objective forms goal h =
    let same : problem_in book s ≡ stated (statement_of (conditions_of s) objective forms) = forms_state_the_problem (book_of book) (sides_in book s.sheet) s objective forms goal h in
    λ i. record {
      decisions = (same i).decisions;
      rows = rows_are number d (book_of book) (sides_in book s.sheet) s s.rows forms h.rows i;
      whole = (same i).whole;
      binary = (same i).binary;
      not_negative = (same i).not_negative;
      numbered = (same i).numbered;
      different = (same i).different;
      objective = (same i).objective;
      goal = (same i).goal;
    }
