use Rattle.std.proofs.Common.{subst, sym}
use Rattle.sheet_linear_model.specs.Answers.{prepared_of}
use Rattle.sheet_linear_model.specs.Prepared.{IsPrepared}
use Rattle.session.specs.Cuts.{cut}
use Rattle.std.specs.Prelude.{IsSome}
use Rattle.session.specs.States.{SessionState, open_search}
use Rattle.session.proofs.Cuts.{slices_sheet}
use Rattle.session.proofs.Ends.{none_sliced}
use Rattle.session.proofs.Said.{if_ok_map}
use Rattle.session.proofs.Changed.{at_err}
use Rattle.session.proofs.Leaving.{both_ok, follows_end, slice_leaves, some_in}
use Rattle.session.proofs.Stopping.{untouched}
use Rattle.session.proofs.session.Session.slice_sheet.Goals as goal

pub returns-in-Ok-clause-step : goal.returns-in-Ok-clause-step
returns-in-Ok-clause-step g c =
    let prepares = subst (λ (s : SessionState). IsPrepared s.book c.args.sheet.0 (prepared_of c.in-Ok.prepared)) (sym c.prepare.ensures.same) c.in-Ok.ensures.prepares in
    rw (← c.prepare.ensures.same)
    (if_ok_map c.slice_model.result _ _ (λ a h search is. slices_sheet _ c.prepare.new.self.state (cut c.args.sheet.0 c.args.units search) (prepared_of c.in-Ok.prepared) a _ prepares (h search is)) c.slice_model.ensures.step)

pub returns-in-Err-clause-step : goal.returns-in-Err-clause-step
returns-in-Err-clause-step g c =
    rw c.prepare.ensures.same
    (none_sliced c.args.self.now.state c.args.sheet.0 c.in-Err.stop c.answer_without_model.result c.in-Err.ensures.prepares c.answer_without_model.ensures.none _ c.args.units)

pub returns-in-Err-clause-said : goal.returns-in-Err-clause-said
returns-in-Err-clause-said g c =
    if_ok_map c.answer_without_model.result _ _ (λ a h. h c.args.self.now.state.book c.args.sheet.0 c.in-Err.ensures.prepares c.in-Err.ensures.said) c.answer_without_model.ensures.said

pub returns-in-Ok-clause-memory : goal.returns-in-Ok-clause-memory
returns-in-Ok-clause-memory g c = rw (← c.prepare.ensures.same) c.slice_model.ensures.memory

pub returns-in-Err-clause-memory : goal.returns-in-Err-clause-memory
returns-in-Err-clause-memory g c =
    at_err c.answer_without_model.result _ (λ search is. untouched _ c.args.self.now.state c.args.sheet.0 c.args.units search c.prepare.new.self.state c.prepare.ensures.same)

pub returns-in-Ok-clause-follows : goal.returns-in-Ok-clause-follows
returns-in-Ok-clause-follows g c =
    let before = c.args.self.now in
    let middle = c.prepare.new.self in
    let p = prepared_of c.in-Ok.prepared in
    let found = some_in (open_search middle.state c.args.sheet.0) (subst (λ (s : SessionState). IsSome (open_search s c.args.sheet.0)) (sym c.prepare.ensures.same) c.requires.open) in
    both_ok c.slice_model.result _ _ _ (λ a step drops. follows_end before middle c.slice_model.new.self c.args.sheet.0 p c.in-Ok.ensures.prepares c.prepare.ensures.same c.in-Ok.ensures.follows a
    (slice_leaves _ middle.state p (cut c.args.sheet.0 c.args.units found.0) a c.slice_model.new.self.state (step found.0 found.1)) drops)
    c.slice_model.ensures.step c.slice_model.ensures.drops
