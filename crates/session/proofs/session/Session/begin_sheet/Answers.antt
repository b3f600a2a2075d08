use Rattle.std.proofs.Common.{subst, sym}
use Rattle.sheet_linear_model.specs.Answers.{prepared_of}
use Rattle.sheet_linear_model.specs.Prepared.{IsPrepared}
use Rattle.session.specs.Cuts.{Begins}
use Rattle.session.specs.States.{SessionState}
use Rattle.session.proofs.Cuts.{begins_sheet}
use Rattle.session.proofs.Ends.{none_made}
use Rattle.session.proofs.Said.{if_ok_map}
use Rattle.session.proofs.session.Session.begin_sheet.Goals as goal

pub returns-in-Ok-clause-step : goal.returns-in-Ok-clause-step
returns-in-Ok-clause-step g c =
    let prepares = subst (λ (s : SessionState). IsPrepared s.book c.args.sheet.0 (prepared_of c.in-Ok.prepared)) (sym c.prepare.ensures.same) c.in-Ok.ensures.prepares in
    rw (← c.prepare.ensures.same)
    (if_ok_map c.begin_model.result _ _ (λ a h. begins_sheet c.prepare.new.self.state c.args.sheet.0 (prepared_of c.in-Ok.prepared) a _ prepares h) c.begin_model.ensures.step)

pub returns-in-Err-clause-step : goal.returns-in-Err-clause-step
returns-in-Err-clause-step g c =
    rw c.prepare.ensures.same
    (none_made c.args.self.now.state c.args.sheet.0 c.in-Err.stop c.answer_without_model.result c.in-Err.ensures.prepares c.answer_without_model.ensures.none (Begins c.args.self.now.state c.args.sheet.0))

pub returns-in-Err-clause-said : goal.returns-in-Err-clause-said
returns-in-Err-clause-said g c =
    if_ok_map c.answer_without_model.result _ _ (λ a h. h c.args.self.now.state.book c.args.sheet.0 c.in-Err.ensures.prepares c.in-Err.ensures.said) c.answer_without_model.ensures.said
