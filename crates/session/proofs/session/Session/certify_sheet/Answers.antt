use Rattle.session.proofs.Ends.{none_certified}
use Rattle.session.proofs.Said.{if_ok_map}
use Rattle.session.proofs.session.Session.certify_sheet.Goals as goal

pub returns-in-Ok-clause-step : goal.returns-in-Ok-clause-step
returns-in-Ok-clause-step g c = rw (← c.prepare.ensures.same) c.certify_model.ensures.step

pub returns-in-Err-clause-step : goal.returns-in-Err-clause-step
returns-in-Err-clause-step g c =
    rw c.prepare.ensures.same (none_certified c.args.self.now.state c.args.sheet.0 c.in-Err.stop c.answer_without_model.result c.in-Err.ensures.prepares c.answer_without_model.ensures.none _)

pub returns-in-Err-clause-said : goal.returns-in-Err-clause-said
returns-in-Err-clause-said g c =
    if_ok_map c.answer_without_model.result _ _ (λ a h. h c.args.self.now.state.book c.args.sheet.0 c.in-Err.ensures.prepares c.in-Err.ensures.said) c.answer_without_model.ensures.said
