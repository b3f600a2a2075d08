-- A sheet with the right side of one row greater is its linear model with that row moved.
use Rattle.std.proofs.Common.{◌≡◌, ℕ, suc, Option, None, refl, sym, ap, ◌∙◌, List, [], ◌∷◌, subst}
use Rattle.std.specs.Prelude.{option_map, Ok}
use Rattle.fractions.specs.Rational.{ℚ}
use Rattle.optimality.specs.Problem.{Problem, greatest}
use Rattle.optimality.specs.Laws.{Agree}
use Rattle.optimality.proofs.SameAnswers.{same_answers_hold}
use Rattle.cell_refs.specs.declared.cell.Cell.{Cell}
use Rattle.linear_models.specs.Conditions.{objective_where}
use Rattle.linear_models.specs.Linear.{linear}
use Rattle.linear_models.specs.Model.{Model, problem_of}
use Rattle.linear_models.specs.Statement as forms
use Rattle.linear_models.proofs.SameAnswers.{linear_agrees}
use Rattle.model_prices.specs.Prices.{BestIs}
use Rattle.model_prices.specs.Rows.{problem_against}
use Rattle.model_prices.proofs.Against.{agrees}
use Rattle.model_prices.proofs.Standards.{model_less}
use Rattle.optimality.specs.declared.kinds.Relation.{Relation as Kind}
use Rattle.workbook.specs.State.{State}
use Rattle.cell_refs.specs.declared.place.Place.{Place}
use Rattle.solver_names.specs.Faults.{all_rows, faults, first}
use Rattle.solver_names.specs.Read.{read_in}
use Rattle.solver_names.specs.Statement.{Statement}
use Rattle.solver_names.specs.Stated.{numbered, stated, statement_in}
use Rattle.solver_names.proofs.Faultless.{no_fault, no_objective}
use Rattle.sheet_problems.specs.Laws.{ModelIsTheSheet}
use Rattle.sheet_problems.proofs.Fitting.{forms_fit}
use Rattle.sheet_problems.proofs.Modelled.{linear_model_is_the_sheet}
use Rattle.sheet_linear_model.specs.Prepared.{IsPrepared, Prepared, rows_of}
use Rattle.sheet_prices.specs.Laws.{AnswersAreTheSheets, BestValuesAgree, RaisedRowsAgree}
use Rattle.sheet_prices.specs.Raised.{problem_raised}
use Rattle.sheet_prices.proofs.Moved.{AreNumbered, linear_more, more_is_stated, statement_more}
use Rattle.sheet_prices.proofs.Raised.{raised_is_stated}

-- ---- problems that agree
joined : (p q r : Problem) → Agree p q → Agree r q → Agree p r
joined p q r a b = record {
  goal = a.goal ∙ sym b.goal;
  permitted = λ x. (λ h. (b.permitted x).1 ((a.permitted x).0 h), λ h. (a.permitted x).1 ((b.permitted x).0 h));
  objective = λ x h. a.objective x h ∙ sym (b.objective x ((b.permitted x).1 ((a.permitted x).0 h)));
}

best_of_one : (p q : Problem) (v : ℚ) → Agree p q → BestIs q v → BestIs p v
best_of_one p q v g b =
    let o = ((same_answers_hold.agreeing p q g).optimal b.0).1 b.1 in
    (b.0, o, g.objective b.0 o.permitted ∙ b.2)

-- ---- the statement of a sheet
are_numbered : (n : ℕ) (rows : List (Kind × Cell × Place)) → AreNumbered n (numbered n rows)
are_numbered n [] = tt
are_numbered n (row ∷ rows) = (refl, are_numbered (suc n) rows)

rows_are_numbered : (book : State) (sheet : ℕ) (s : Statement) → statement_in book sheet ≡ Ok s → AreNumbered 1 s.rows
rows_are_numbered book sheet s h =
    let r = no_fault (stated sheet (read_in book sheet)) s (first (faults (read_in book sheet))) h in
    subst (λ (t : Statement). AreNumbered 1 t.rows) r.1 (are_numbered 1 (all_rows (read_in book sheet).constraints))

-- where there is no objective, the greatest is wanted
goal_of : (book : State) (sheet : ℕ) (s : Statement) → statement_in book sheet ≡ Ok s → s.objective ≡ None → s.goal ≡ greatest
goal_of book sheet s h =
    let r = no_fault (stated sheet (read_in book sheet)) s (first (faults (read_in book sheet))) h in
    subst (λ (t : Statement). t.objective ≡ None → t.goal ≡ greatest) r.1 (no_objective sheet (read_in book sheet) r.0)

-- ---- the laws
pub raised_rows_agree : RaisedRowsAgree
raised_rows_agree book sheet p c place number d w o h =
    let t : forms.Statement = rows_of p.statement p.objective p.sides in
    let u : forms.Statement = statement_more number d p.statement.rows t in
    let same : problem_raised book p.statement number d ≡ forms.stated u =
    raised_is_stated book p.statement number d p.objective p.sides (goal_of book sheet p.statement w.forms.stated) w.forms.forms in
    let is_it : linear u ≡ model_less p.model place d =
    linear_more 1 number place d p.statement.rows t (rows_are_numbered book sheet p.statement w.forms.stated) h.within h.number_is ∙ ap (λ m. model_less m place d) (sym w.model) in
    let own : Agree (forms.stated u) (problem_of (linear u)) =
    (linear_agrees u (more_is_stated number d p.statement.rows t (forms_fit book sheet p.statement p.objective p.sides w.forms.stated w.forms.forms).1)).objective p.objective
    (ap (λ (o : Option Cell). objective_where (option_map (λ (c : Cell). p.statement.goal) o) p.objective) o) in
    subst (λ (q : Problem). Agree q (problem_against p.model place d)) (sym same)
    (joined (forms.stated u) (problem_of (model_less p.model place d)) (problem_against p.model place d) (subst (λ (m : Model). Agree (forms.stated u) (problem_of m)) is_it own) (agrees p.model place d))

pub best_values_agree : BestValuesAgree
best_values_agree book sheet p c place number d v w o h b = best_of_one _ _ v (raised_rows_agree book sheet p c place number d w o h) b

-- the prepared model is the sheet
is_the_sheet : (book : State) (sheet : ℕ) (p : Prepared) → IsPrepared book sheet p → ModelIsTheSheet book p.statement p.model
is_the_sheet book sheet p w =
    subst (ModelIsTheSheet book p.statement) (sym w.model) (linear_model_is_the_sheet book sheet p.statement p.objective p.sides w.forms.stated w.forms.forms)

pub answers_are_the_sheets : AnswersAreTheSheets
answers_are_the_sheets = record {
  best = λ book sheet p c v w o b. best_of_one _ _ v ((is_the_sheet book sheet p w).objective c o) b;
  infeasible = λ book sheet p w h. (is_the_sheet book sheet p w).answers.infeasible.1 h;
  unbounded = λ book sheet p w h. (is_the_sheet book sheet p w).answers.unbounded.1 h;
}
