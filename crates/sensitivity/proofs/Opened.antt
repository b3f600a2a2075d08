-- The end of a call that has taken a unit for the opening.
use Rattle.std.specs.Prelude.{MatchResult, IfOk, Result, Ok, Err}
use Rattle.std.specs.Result.{IsErrAnd}
use Rattle.std.proofs.Common.{◌≡◌, ℕ, ◌+◌, ◌-◌, ◌<◌, sym, subst, arith, inr}
use Rattle.linear_models.specs.Model.{Model}
use Rattle.dictionaries.specs.Dictionary.{Dictionary, first_of_program}
use Rattle.dictionaries.specs.Run.{Leads}
use Rattle.dictionaries.proofs.Reaching.{leads_nowhere}
use Rattle.model_prices.specs.Prices.{program_of, IsContinuous}
use Rattle.sensitivity.specs.Answers.{IsAnswer, IsStop, IsPriced}
use Rattle.sensitivity.specs.Truth.{PricesAreTrue}
use Rattle.sensitivity.specs.declared.answer.PriceAnswer.{PriceAnswer}
use Rattle.sensitivity.specs.declared.stop.PriceStop.{PriceStop}
use Rattle.sensitivity.specs.declared.stop.PriceStop.TheVariants as stops
use Rattle.sensitivity.proofs.Truths.{answer_is_true}

-- no memory for the program or for its first dictionary
without_memory : (m : Model) (units : ℕ) → 0 < units → IsPriced m units (units - 1) (Err stops.Memory)
without_memory m units h = inr record { last = first_of_program (program_of m); pivots = 0; run = leads_nowhere (first_of_program (program_of m)); taken = omega arith; end = tt }

pub from_memory : (m : Model) (units : ℕ) (r : Result PriceAnswer PriceStop) → 0 < units → IsErrAnd r (λ e. e ≡ stops.Memory) → IsPriced m units (units - 1) r
from_memory m units (Ok a) h k = absurd k
from_memory m units (Err s) h k = subst (λ e. IsPriced m units (units - 1) (Err e)) (sym k) (without_memory m units h)

-- the dictionary that the run has come to
pub after_run : (m : Model) (units left k : ℕ) (first last : Dictionary) (r : Result PriceAnswer PriceStop) → 0 < units → first ≡ first_of_program (program_of m) → Leads k first last
    → k + left ≡ units - 1 → MatchResult r (IsAnswer m last) (IsStop m last left) → IsPriced m units left r
after_run m units left k first last r h e l q a =
    inr record { last = last; pivots = k; run = subst (λ d. Leads k d last) e l; taken = omega arith; end = a }

pub true_after_run : (m : Model) (left k : ℕ) (first last : Dictionary) (r : Result PriceAnswer PriceStop) → IsContinuous m → first ≡ first_of_program (program_of m) → Leads k first last
    → MatchResult r (IsAnswer m last) (IsStop m last left) → IfOk r (PricesAreTrue m)
true_after_run m left k first last (Ok a) c e l h = answer_is_true m last k a c (subst (λ d. Leads k d last) e l) h
true_after_run m left k first last (Err s) c e l h = tt
