-- What an optimum of the model means of the sheet.
use Rattle.std.proofs.Common.{◌≡◌, refl, sym, ap, ◌∙◌, length, Option, Some, None}
use Rattle.std.specs.Option.{option_map}
use Rattle.fractions.specs.Rational.{ℚ, neg_ℚ}
use Rattle.fractions.proofs.Laws.{neg-neg, add-zero}
use Rattle.optimality.specs.Problem.{Assignment, Worth, Goal, greatest, least, reach}
use Rattle.optimality.specs.Optimal.{Optimal, objective_at, worth_under}
use Rattle.optimality.specs.Laws.{Agree}
use Rattle.affine_forms.specs.Forms.{AffineForm}
use Rattle.affine_forms.specs.Assigned.{assigned}
use Rattle.affine_forms.proofs.Worths.{negated_worth}
use Rattle.cell_refs.specs.declared.cell.Cell.{Cell}
use Rattle.linear_models.specs.Worths.{form_at}
use Rattle.linear_models.specs.Model as model
use Rattle.searches.specs.Answers as answers
use Rattle.workbook.specs.Kinds.{book_of}
use Rattle.workbook.specs.State.{State}
use Rattle.cell_refs.specs.declared.place.Place.TheVariants as place
use Rattle.solver_names.specs.Sides.{sides_in}
use Rattle.solver_names.specs.Statement.{Statement}
use Rattle.commands.specs.FromSheetProblems.{ModelIsTheSheet}
use Rattle.commands.specs.FromSheetProblems.{worth_at}
use Rattle.commands.specs.FromSheetProblems.{problem_in}
use Rattle.sheet_solving.specs.Inner.{told_of, value_told}

-- the objective of the model by the number that its search has
objective_by : (g : Goal) (f : AffineForm) (x : Assignment) (v : ℚ) → form_at (model.maximised g f) x ≡ v → model.objective_of g f x ≡ Some (value_told g v)
objective_by greatest f x v e = ap Some e
objective_by least f x v e = ap Some (sym (neg-neg (form_at f x)) ∙ ap neg_ℚ (sym (negated_worth (assigned x) f) ∙ e))
objective_by (reach w) f x v e = ap Some (add-zero w)

-- an objective that is a number, where there is one
worth_by : (f : Cell → Worth) (n : ℚ) (x : Assignment) (o : Option Cell) → ((c : Cell) → o ≡ Some c → f c x ≡ Some n) → worth_under (option_map f o) x ≡ option_map (λ c. n) o
worth_by f n x None h = refl
worth_by f n x (Some c) h = h c refl

-- the same, where it is named
under_some : (f : Cell → Worth) (x : Assignment) (o : Option Cell) (c : Cell) → o ≡ Some c → worth_under (option_map f o) x ≡ f c x
under_some f x o c e = ap (λ (o : Option Cell). worth_under (option_map f o) x) e

-- an optimum of the sheet, with the objective's number
pub record IsBest (book : State) (s : Statement) (x : Assignment) (v : ℚ) : Type 0 where
  pub optimal : Optimal (problem_in book s) x
  pub worth : objective_at (problem_in book s) x ≡ told_of s v
  pub one_each : length x ≡ length s.decisions

pub best_of : (book : State) (s : Statement) (m : model.Model) (x : Assignment) (v : ℚ) → ModelIsTheSheet book s m → answers.IsTrueOf m (answers.optimal x v) → IsBest book s x v
best_of book s m x v same true_of = record { optimal = best; worth = worth_by f (value_told s.goal v) x s.objective number; one_each = best.permitted.one_each }
  where
    best : Optimal (problem_in book s) x
    best = (same.answers.optimal x).1 true_of.0

    f : Cell → Worth
    f c = worth_at (book_of book) (sides_in book s.sheet) s.decisions (place.Cell c)

    number : (c : Cell) → s.objective ≡ Some c → f c x ≡ Some (value_told s.goal v)
    number c e =
        let agree : Agree (problem_in book s) (model.problem_of m) = same.objective c e in
        sym (under_some f x s.objective c e) ∙ (agree.objective x best.permitted ∙ (objective_by m.goal m.objective x v true_of.1 ∙ ap (λ (g : Goal). Some (value_told g v)) (sym agree.goal)))
