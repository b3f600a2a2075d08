-- What is told where the rows of a sheet are priced.
use Rattle.std.proofs.Common.{◌≡◌, ℕ, sym, subst, List, []}
use Rattle.std.specs.Prelude.{All, IfOk, Result, Ok, Err}
use Rattle.std.proofs.lemmas.List.Elements.{All-from_recursion}
use Rattle.commands.specs.Lines.{CanBeSaid}
use Rattle.commands.specs.Refusals.{StepIsListed}
use Rattle.commands.specs.declared.answer.Answer.{Answer}
use Rattle.commands.specs.declared.answer.Answer.TheVariants as answer
use Rattle.commands.specs.declared.answer.PathStep.{PathStep}
use Rattle.commands.specs.declared.price_lines.PriceLine.{PriceLine}
use Rattle.sensitivity.specs.declared.answer.PriceAnswer.{PriceAnswer}
use Rattle.sensitivity.specs.declared.answer.PriceAnswer.TheVariants as found
use Rattle.sensitivity.specs.declared.stop.PriceStop.{PriceStop}
use Rattle.sensitivity.specs.declared.stop.PriceStop.TheVariants as stop
use Rattle.sensitivity.specs.Truth.{PricesAreTrue}
use Rattle.workbook.specs.State.{State}
use Rattle.sheet_linear_model.specs.Prepared.{IsPrepared, Prepared}
use Rattle.sheet_prices.specs.Answers.{ComesTo, HasAim, Prices, Tells}
use Rattle.sheet_prices.specs.Inner.{SheetHasPrices}
use Rattle.sheet_prices.specs.Prices.{ArePricesOf, IsTrueOf}
use Rattle.sheet_prices.proofs.Priced.{prices_are_the_sheets}

-- ---- answers that tell how a run ends
abbrev pub IsTold : Answer → Type 0
IsTold (answer.Prices lines) = Unit {0}
IsTold answer.Infeasible = Unit {0}
IsTold answer.Unbounded = Unit {0}
IsTold (answer.WidePivot path basis leaves enters) = Unit {0}
IsTold (answer.Budget n) = Unit {0}
IsTold (answer.WideRange row) = Unit {0}
IsTold _ = ⊥

pub told : (p : Prepared) (units : ℕ) (r : Result PriceAnswer PriceStop) (a : Answer) → Tells p units r a → IsTold a
told p units (Ok (found.Best value prices)) (answer.Prices lines) h = tt
told p units (Ok found.Infeasible) answer.Infeasible h = tt
told p units (Ok found.Unbounded) answer.Unbounded h = tt
told p units (Err (stop.WidePivot basis leaves enters)) (answer.WidePivot path now_basis now_leaves now_enters) h = tt
told p units (Err stop.Spent) (answer.Budget n) h = tt
told p units (Err (stop.WideRange place)) (answer.WideRange row) h = tt
told p units _ _ h = absurd h

priced : (p : Prepared) (units : ℕ) (r : Result PriceAnswer PriceStop) (a : Answer) → ComesTo p units r → Tells p units r a → Prices p units a
priced p units r answer.NoObjective c t = absurd (told p units r answer.NoObjective t)
priced p units r (answer.NotContinuous cell) c t = absurd (told p units r (answer.NotContinuous cell) t)
priced p units r a c t = (r, c, t)

pub all_priced : {E : Type 0} (p : Prepared) (units : ℕ) (r : Result PriceAnswer PriceStop) (said : Result Answer E) → ComesTo p units r → IfOk said (Tells p units r) → IfOk said (Prices p units)
all_priced p units r (Ok a) c t = priced p units r a c t
all_priced p units r (Err e) c t = t

-- ---- and what they say of the sheet
true_found : (book : State) (p : Prepared) (units : ℕ) (f : PriceAnswer) (a : Answer) → Tells p units (Ok f) a → SheetHasPrices book p f → IsTrueOf book p.statement a
true_found book p units (found.Best value prices) (answer.Prices lines) t h =
    subst (λ v. ArePricesOf book p.statement v lines.rows.items) (sym t.0) (subst (λ (l : List PriceLine). ArePricesOf book p.statement value l) (sym t.1) h)
true_found book p units found.Infeasible answer.Infeasible t h = h
true_found book p units found.Unbounded answer.Unbounded t h = h
true_found book p units _ _ t h = absurd t

true_stop : (book : State) (p : Prepared) (units : ℕ) (s : PriceStop) (a : Answer) → Tells p units (Err s) a → IsTrueOf book p.statement a
true_stop book p units (stop.WidePivot basis leaves enters) (answer.WidePivot path now_basis now_leaves now_enters) t = tt
true_stop book p units stop.Spent (answer.Budget n) t = tt
true_stop book p units (stop.WideRange place) (answer.WideRange row) t = tt
true_stop book p units _ _ t = absurd t

pub all_true : {E : Type 0} (p : Prepared) (units : ℕ) (f : PriceAnswer) (said : Result Answer E) → HasAim p.statement → PricesAreTrue p.model f → IfOk said (Tells p units (Ok f))
    → IfOk said (λ a. (book : State) (sheet : ℕ) → IsPrepared book sheet p → IsTrueOf book p.statement a)
all_true p units f (Ok a) aim h t = λ book sheet is. true_found book p units f a t (prices_are_the_sheets book sheet p aim.cell f is aim.objective h)
all_true p units f (Err e) aim h t = t

pub all_true_stops : {E : Type 0} (p : Prepared) (units : ℕ) (s : PriceStop) (said : Result Answer E) → IfOk said (Tells p units (Err s))
    → IfOk said (λ a. (book : State) (sheet : ℕ) → IsPrepared book sheet p → IsTrueOf book p.statement a)
all_true_stops p units s (Ok a) t = λ book sheet is. true_stop book p units s a t
all_true_stops p units s (Err e) t = t

-- ---- no cell is named in them
none_listed : (sheets : List (List ℕ)) (path : List PathStep) → path ≡ [] → All (StepIsListed sheets) path
none_listed sheets path e = subst (All (StepIsListed sheets)) (sym e) (All-from_recursion (StepIsListed sheets) [] tt)

can_be_said : (sheets : List (List ℕ)) (p : Prepared) (units : ℕ) (r : Result PriceAnswer PriceStop) (a : Answer) → Tells p units r a → CanBeSaid sheets a
can_be_said sheets p units (Ok (found.Best value prices)) (answer.Prices lines) t = tt
can_be_said sheets p units (Ok found.Infeasible) answer.Infeasible t = tt
can_be_said sheets p units (Ok found.Unbounded) answer.Unbounded t = tt
can_be_said sheets p units (Err (stop.WidePivot basis leaves enters)) (answer.WidePivot path now_basis now_leaves now_enters) t = none_listed sheets path.items t.0
can_be_said sheets p units (Err stop.Spent) (answer.Budget n) t = tt
can_be_said sheets p units (Err (stop.WideRange place)) (answer.WideRange row) t = tt
can_be_said sheets p units _ _ t = absurd t

pub all_said : {E : Type 0} (p : Prepared) (units : ℕ) (r : Result PriceAnswer PriceStop) (said : Result Answer E) → IfOk said (Tells p units r) → IfOk said (λ a. (sheets : List (List ℕ)) → CanBeSaid sheets a)
all_said p units r (Ok a) t = λ sheets. can_be_said sheets p units r a t
all_said p units r (Err e) t = t

-- with units that don't matter
pub for_units : {E : Type 0} (p : Prepared) (units : ℕ) (f : PriceAnswer) (said : Result Answer E) → IfOk said (λ a. (units : ℕ) → Tells p units (Ok f) a) → IfOk said (Tells p units (Ok f))
for_units p units f (Ok a) t = t units
for_units p units f (Err e) t = t
