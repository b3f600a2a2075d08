-- The linear model of the forms of a sheet is the problem of the sheet.
use Rattle.std.proofs.Common.{◌≡◌, ℕ, Option, None, sym, ap, subst}
use Rattle.std.specs.Prelude.{◌↔◌, option_map, Ok}
use Rattle.optimality.specs.Problem.{Problem, greatest}
use Rattle.optimality.specs.Optimal.{Permitted}
use Rattle.optimality.specs.Laws.{Agree, SameAnswers}
use Rattle.cell_refs.specs.declared.cell.Cell.{Cell}
use Rattle.linear_models.specs.Agreement.{AgreesWith}
use Rattle.linear_models.specs.Conditions.{objective_where, statement_of}
use Rattle.linear_models.specs.Linear.{linear}
use Rattle.linear_models.specs.Model.{IsPoint, Model}
use Rattle.linear_models.specs.Model as model
use Rattle.linear_models.specs.Statement as forms
use Rattle.linear_models.proofs.SameAnswers.{linear_agrees}
use Rattle.workbook.specs.Kinds.{book_of}
use Rattle.workbook.specs.State.{State}
use Rattle.solver_names.specs.Faults.{faults, first}
use Rattle.solver_names.specs.Read.{read_in}
use Rattle.solver_names.specs.Sides.{sides_in}
use Rattle.solver_names.specs.Statement.{Statement}
use Rattle.solver_names.specs.Stated.{stated, statement_in}
use Rattle.sheet_problems.specs.Forms.{conditions_of}
use Rattle.sheet_problems.specs.Laws.{LinearModelIsTheSheet}
use Rattle.sheet_problems.specs.SheetProblem.{problem_in}
use Rattle.solver_names.proofs.Faultless.{no_fault, no_objective}
use Rattle.sheet_problems.proofs.Fitting.{forms_fit}
use Rattle.sheet_problems.proofs.Stating.{forms_state_the_problem}

-- where there is no objective, the greatest is wanted
goal_of : (book : State) (sheet : ℕ) (s : Statement) → statement_in book sheet ≡ Ok s → s.objective ≡ None → s.goal ≡ greatest
goal_of book sheet s h =
    let r = no_fault (stated sheet (read_in book sheet)) s (first (faults (read_in book sheet))) h in
    subst (λ (t : Statement). t.objective ≡ None → t.goal ≡ greatest) r.1 (no_objective sheet (read_in book sheet) r.0)

pub linear_model_is_the_sheet : LinearModelIsTheSheet
linear_model_is_the_sheet book sheet s objective rows h has =
    let t : forms.Statement = statement_of (conditions_of s) objective rows in
    let same : problem_in book s ≡ forms.stated t = forms_state_the_problem (book_of book) (sides_in book s.sheet) s objective rows (goal_of book sheet s h) has in
    let agrees : AgreesWith t (linear t) = linear_agrees t (forms_fit book sheet s objective rows h has).1 in
    record {
      permitted = λ a. subst (λ (p : Problem). Permitted p a ↔ IsPoint (linear t) a) (sym same) (agrees.permitted a);
      answers = subst (λ (p : Problem). SameAnswers p (model.problem_of (linear t))) (sym same) agrees.answers;
      objective = λ c e. subst (λ (p : Problem). Agree p (model.problem_of (linear t))) (sym same)
          (agrees.objective objective (ap (λ (o : Option Cell). objective_where (option_map (λ (c : Cell). s.goal) o) objective) e));
    }
