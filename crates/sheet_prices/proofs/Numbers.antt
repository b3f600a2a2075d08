-- The rows of the model are those of the sheet that aren't bounds, where no value is to be reached.
use Rattle.std.specs.Prelude.{is_some, Err}
use Rattle.std.proofs.Common.{◌≡◌, inl, inr, ℕ, suc, ◌+◌, Option, Some, None, cond, refl, sym, ap, subst, ◌∙◌, true, List, [], ◌∷◌, ◌++◌, length, arith, length-append}
use Rattle.std.proofs.lemmas.List.{length-map}
use Rattle.optimality.specs.Problem.{Relation, Goal, greatest, least, reach}
use Rattle.affine_forms.specs.Forms.{AffineForm}
use Rattle.linear_models.specs.Bounds.{bounded}
use Rattle.linear_models.specs.Conditions.{Condition, constraints}
use Rattle.linear_models.specs.Linear.{form_or_zero}
use Rattle.linear_models.specs.Model.{IsValid, Model, is_whole_at}
use Rattle.linear_models.specs.Statement.{Constraint, Statement}
use Rattle.linear_models.proofs.Agreement.{rows_of as rows_split, reach_exact}
use Rattle.linear_models.proofs.Sides.{row_exact, rows_exact}
use Rattle.model_prices.specs.Prices.{IsAim, IsContinuous}
use Rattle.sensitivity.specs.Answers.{IsPriced}
use Rattle.sensitivity.specs.Truth.{PricesAreTrue}
use Rattle.sensitivity.specs.declared.answer.PriceAnswer.{PriceAnswer}
use Rattle.sensitivity.specs.declared.answer.PriceAnswer.TheVariants as answers
use Rattle.sensitivity.specs.declared.stop.PriceStop.{PriceStop}
use Rattle.sensitivity.specs.declared.stop.PriceStop.TheVariants as stops
use Rattle.workbook.specs.State.{State}
use Rattle.solver_names.specs.Statement.{RowOf}
use Rattle.sheet_problems.specs.Forms.{condition_of, conditions_of}
use Rattle.sheet_problems.proofs.Fitting.{forms_fit}
use Rattle.sheet_linear_model.specs.Lines.{numbers_of, row_numbers}
use Rattle.sheet_linear_model.specs.Prepared.{IsPrepared, Prepared, rows_of}
use Rattle.sheet_prices.specs.Answers.{HasAim}
use Rattle.sheet_prices.specs.Inner.{FitsNumbers, StopFitsNumbers}
use Rattle.sheet_prices.proofs.Priced.{as_many, few_numbers}

-- ---- a number for each row
one_number : (o : Option ℕ) (m : ℕ) (c : Constraint) (ns : List ℕ) (rest : List (AffineForm × Relation)) → length ns ≡ length rest → length (cond (is_some o) ns (m ∷ ns)) ≡ length (row_exact o c ++ rest)
one_number None m c ns rest h = ap suc h
one_number (Some j) m c ns rest h = h

as_many_numbers : (rs : List RowOf) (cs : List Constraint) → length cs ≡ length rs → length (row_numbers rs cs) ≡ length (rows_exact cs)
as_many_numbers [] [] h = refl
as_many_numbers [] (c ∷ cs) h = absurd cc
as_many_numbers (r ∷ rs) [] h = absurd cc
as_many_numbers (r ∷ rs) (c ∷ cs) h = one_number (bounded c) r.number c (row_numbers rs cs) (rows_exact cs) (as_many_numbers rs cs (omega (arith, h)))

as_many_constraints : (cs : List Condition) (sides : List (AffineForm × AffineForm)) → length sides ≡ length cs → length (constraints cs sides) ≡ length cs
as_many_constraints [] sides h = refl
as_many_constraints (c ∷ cs) [] h = absurd cc
as_many_constraints (c ∷ cs) (s ∷ sides) h = ap suc (as_many_constraints cs sides (omega (arith, h)))

-- none for a value that is to be reached
none_reached : (g : Goal) (f : AffineForm) → IsAim g → length (reach_exact g f) ≡ 0
none_reached greatest f a = refl
none_reached least f a = refl
none_reached (reach v) f a = absurd a

module _ (book : State) (sheet : ℕ) (p : Prepared) (is : IsPrepared book sheet p) where
  abbrev rows : Statement
  rows = rows_of p.statement p.objective p.sides

  goal_is : HasAim p.statement → rows.goal ≡ p.statement.goal
  goal_is aim = rw aim.objective refl

  pub numbers_are : HasAim p.statement → length (numbers_of p) ≡ length p.model.rows
  numbers_are aim =
      let split : length p.model.rows ≡ length (rows_exact rows.rows ++ reach_exact rows.goal (form_or_zero rows.objective)) = ap (λ (m : Model). length m.rows) is.model ∙ ap length (rows_split rows) in
      let fits = (forms_fit book sheet p.statement p.objective p.sides is.forms.stated is.forms.forms).0 in
      let each : length rows.rows ≡ length p.statement.rows = as_many_constraints (conditions_of p.statement).rows p.sides fits ∙ length-map p.statement.rows (condition_of p.statement.decisions) in
      let numbers = as_many_numbers p.statement.rows rows.rows each in
      let none = none_reached rows.goal (form_or_zero rows.objective) (subst IsAim (sym (goal_is aim)) aim.aim) in
      omega (arith, split, numbers, none, length-append (rows_exact rows.rows) (reach_exact rows.goal (form_or_zero rows.objective)))

  -- where no cell is to be whole, the model is continuous
  pub is_continuous_so : HasAim p.statement → IsValid p.model → ((k : ℕ) → is_whole_at p.model.whole k ≡ true → ⊥) → IsContinuous p.model
  is_continuous_so aim valid none = record {
    valid = valid;
    no_whole = none;
    aim = subst IsAim (sym (goal_is aim) ∙ sym (ap (λ (m : Model). m.goal) is.model)) aim.aim;
  }

  -- the prices of the model are enough for them
  pub prices_fit : (found : PriceAnswer) → PricesAreTrue p.model found → FitsNumbers (numbers_of p) found
  prices_fit (answers.Best value prices) h =
      let n = as_many p.model value prices.items h in
      omega (arith, n, few_numbers book sheet p is)
  prices_fit answers.Infeasible h = tt
  prices_fit answers.Unbounded h = tt

  -- and a row without a price is one of them
  pub stop_fits : HasAim p.statement → (units left : ℕ) (stop : PriceStop) → IsPriced p.model units left (Err stop) → StopFitsNumbers (numbers_of p) stop
  stop_fits aim units left (stops.WidePivot basis leaves enters) h = tt
  stop_fits aim units left stops.Spent h = tt
  stop_fits aim units left stops.Memory h = tt
  stop_fits aim units left (stops.WideRange place) (inl s) = let e = s.spent in absurd cc
  stop_fits aim units left (stops.WideRange place) (inr r) = let n = numbers_are aim in let l = r.end.1.0 in omega (arith, n, l)
