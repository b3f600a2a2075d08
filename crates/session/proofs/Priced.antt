-- The prices of a sheet's rows as a session tells them.
use Rattle.std.proofs.Common.{ℕ, refl}
use Rattle.std.specs.Prelude.{IfOk, Result, Ok, Err}
use Rattle.workbook.specs.State.{State}
use Rattle.sheet_linear_model.specs.Prepared.{IsPrepared, Prepared}
use Rattle.sheet_prices.specs.Answers.{Prices}
use Rattle.sheet_prices.specs.Prices.{IsTrueOf}
use Rattle.sheet_prices.proofs.Told.{told}
use Rattle.commands.specs.declared.answer.Answer.{Answer}
use Rattle.commands.specs.declared.answer.Answer.TheVariants as answer
use Rattle.session.specs.Prices.{PricesSheet}
use Rattle.session.specs.States.{SessionState}

prices_tell : (before : SessionState) (sheet : ℕ) (p : Prepared) (a : Answer) → IsPrepared before.book sheet p → Prices p before.budget a → IsTrueOf before.book p.statement a → PricesSheet before sheet a before
prices_tell before sheet p (answer.Names fault) is h t = absurd (told p before.budget h.0 (answer.Names fault) h.2)
prices_tell before sheet p (answer.Form refusal) is h t = absurd (told p before.budget h.0 (answer.Form refusal) h.2)
prices_tell before sheet p (answer.WideRow row) is h t = absurd (told p before.budget h.0 (answer.WideRow row) h.2)
prices_tell before sheet p a is h t = (p, is, (h, t, refl))

pub all_priced : {E : Type 0} (before : SessionState) (sheet : ℕ) (p : Prepared) (r : Result Answer E) → IsPrepared before.book sheet p → IfOk r (Prices p before.budget)
    → IfOk r (λ a. (book : State) (sheet : ℕ) → IsPrepared book sheet p → IsTrueOf book p.statement a) → IfOk r (λ a. PricesSheet before sheet a before)
all_priced before sheet p (Ok a) is h t = prices_tell before sheet p a is h (t before.book sheet is)
all_priced before sheet p (Err e) is h t = h
