-- How the end of a search is told by a session.
use Rattle.std.proofs.Common.{◌≡◌, ℕ, Some, refl}
use Rattle.std.specs.Prelude.{IfOk, Result, Err}
use Rattle.node_pick.specs.Rules.{Rule}
use Rattle.workbook.specs.State.{State}
use Rattle.sheet_linear_model.specs.Answers.{HasNoModel, Prepares}
use Rattle.sheet_linear_model.specs.Prepared.{IsPrepared, Prepared}
use Rattle.sheet_linear_model.specs.declared.prepared.NoModel.{NoModel}
use Rattle.kept_book.specs.FromSheetSolving.{Opened, whole_task}
use Rattle.commands.specs.declared.answer.Answer.{Answer}
use Rattle.commands.specs.declared.answer.Answer.TheVariants as answer
use Rattle.session.specs.Cuts.{Slices as CutSlices, cut}
use Rattle.session.specs.Models.{Models}
use Rattle.session.specs.Certificates.{CertifiesSheet, TellsCertificate}
use Rattle.session.specs.Prices.{PricesSheet, TellsPrices}
use Rattle.session.specs.Solves.{SearchEnds, SolvesSheet, WithModel}
use Rattle.session.specs.States.{SessionState, open_search}
use Rattle.session.proofs.Said.{if_ok_map}

-- ---- models
-- what is answered of a sheet without a model, whatever was to be done with it
pub without_model : (Act : Prepared → Answer → SessionState → Type 0) (before : SessionState) (sheet : ℕ) (a : Answer) → HasNoModel before.book sheet a → WithModel Act before sheet a before
without_model Act before sheet (answer.Names fault) h = (h, refl)
without_model Act before sheet (answer.Form refusal) h = (h, refl)
without_model Act before sheet (answer.WideRow row) h = (h, refl)
without_model Act before sheet _ h = absurd h

-- the same of the answer for what a sheet's model is refused by
module _ {E : Type 0} (before : SessionState) (sheet : ℕ) (stop : NoModel) (r : Result Answer E) (prepares : Prepares before.book sheet (Err stop))
    (none : IfOk r (λ a. (book : State) (sheet : ℕ) → Prepares book sheet (Err stop) → HasNoModel book sheet a)) where
  pub none_made : (Act : Prepared → Answer → SessionState → Type 0) → IfOk r (λ a. WithModel Act before sheet a before)
  none_made Act =
      if_ok_map r (λ (a : Answer). (book : State) (sheet : ℕ) → Prepares book sheet (Err stop) → HasNoModel book sheet a) (λ (a : Answer). WithModel Act before sheet a before)
      (λ a h. without_model Act before sheet a (h before.book sheet prepares)) none

  pub none_solved : (rule : Rule) → IfOk r (λ a. SolvesSheet rule before sheet a before)
  none_solved rule = none_made (λ (p : Prepared). SearchEnds (whole_task rule before.budget) before p.statement p.model)

  pub none_priced : IfOk r (λ a. PricesSheet before sheet a before)
  none_priced = none_made (TellsPrices before)

  pub none_certified : (rule : Rule) → IfOk r (λ a. CertifiesSheet rule before sheet a before)
  none_certified rule = none_made (TellsCertificate rule before)

  pub none_sliced : (rule : Rule) (units : ℕ)
      → IfOk r (λ a. (search : Opened) → open_search before sheet ≡ Some search → WithModel (CutSlices rule before (cut sheet units search)) before sheet a before)
  none_sliced rule units =
      if_ok_map r (λ (a : Answer). (book : State) (sheet : ℕ) → Prepares book sheet (Err stop) → HasNoModel book sheet a)
      (λ (a : Answer). (search : Opened) → open_search before sheet ≡ Some search → WithModel (CutSlices rule before (cut sheet units search)) before sheet a before)
      (λ a h search is. without_model (CutSlices rule before (cut sheet units search)) before sheet a (h before.book sheet prepares)) none

pub not_modelled : (book : State) (sheet : ℕ) (a : Answer) → HasNoModel book sheet a → Models book sheet a
not_modelled book sheet (answer.Names fault) h = h
not_modelled book sheet (answer.Form refusal) h = h
not_modelled book sheet (answer.WideRow row) h = h
not_modelled book sheet _ h = absurd h

-- the end of a search over a sheet's model solves the sheet
pub ends_solve : (rule : Rule) (before : SessionState) (sheet : ℕ) (p : Prepared) (a : Answer) (after : SessionState) → IsPrepared before.book sheet p
    → SearchEnds (whole_task rule before.budget) before p.statement p.model a after → SolvesSheet rule before sheet a after
ends_solve rule before sheet p (answer.Names fault) after is h = absurd h.1
ends_solve rule before sheet p (answer.Form refusal) after is h = absurd h.1
ends_solve rule before sheet p (answer.WideRow row) after is h = absurd h.1
ends_solve rule before sheet p a after is h = (p, is, h)

pub all_end : {E : Type 0} (rule : Rule) (before after : SessionState) (sheet : ℕ) (p : Prepared) (r : Result Answer E) → IsPrepared before.book sheet p
    → IfOk r (λ a. SearchEnds (whole_task rule before.budget) before p.statement p.model a after) → IfOk r (λ a. SolvesSheet rule before sheet a after)
all_end rule before after sheet p r is h =
    if_ok_map r (λ (a : Answer). SearchEnds (whole_task rule before.budget) before p.statement p.model a after) (λ (a : Answer). SolvesSheet rule before sheet a after)
    (λ a h. ends_solve rule before sheet p a after is h) h
