-- Rows that are right, and the answers of code.
use Rattle.std.proofs.Common.{subst, List, Result, Ok, Err}
use Rattle.calculations.proofs.CalculationLaws.{narrow-exact}
use Rattle.sheet_model.specs.declared.grid.Arg.{Arg}
use Rattle.affine_forms.specs.Forms.{Assignment}
use Rattle.form_values.specs.Trials.{Refusal, Breaks, Undecided}
use Rattle.form_values.specs.declared.abs.AbsArg.{AbsArg}
use Rattle.form_values.specs.declared.refusal.OpRefusal.TheVariants as refusal
use Rattle.form_truth.specs.Rows.{IsOutcome, IsOutcomeOf}
use Rattle.form_truth.specs.Answered.{AnswersAreRight}
use Rattle.form_truth.proofs.Right.{IsRightArg, IsRightSum}

pub joined : (value : Assignment → Arg) (args : List AbsArg) (outcome : Result AbsArg Refusal) → IsRightArg value args outcome → IsOutcomeOf value args outcome
joined value args (Ok a) h = h
joined value args (Err Breaks) h = h
joined value args (Err (Undecided i)) h = h

pub joined_sum : (value : Assignment → Arg) (args : List AbsArg) (B : Type 0) (outcome : Result AbsArg Refusal) → IsRightSum value args B outcome → IsOutcome value args B outcome
joined_sum value args B (Ok a) h = h
joined_sum value args B (Err Breaks) h = h
joined_sum value args B (Err (Undecided i)) h = h

pub answers_right : (B : (Assignment → Arg) → List AbsArg → Type 0) → AnswersAreRight B
answers_right B value args row (Ok a) h e = subst (IsOutcome value args (B value args)) (narrow-exact row (Ok a) e) h
answers_right B value args row (Err refusal.Break) h e = subst (IsOutcome value args (B value args)) (narrow-exact row (Err Breaks) e) h
answers_right B value args row (Err (refusal.Undecided i)) h e = subst (IsOutcome value args (B value args)) (narrow-exact row (Err (Undecided i)) e) h
answers_right B value args row (Err refusal.Wide) h e = tt
answers_right B value args row (Err refusal.Memory) h e = tt
