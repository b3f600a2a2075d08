use Rattle.session.proofs.Ends.{not_modelled}
use Rattle.session.proofs.Keeping.{refused_follows}
use Rattle.session.proofs.Said.{if_ok_map}
use Rattle.session.specs.Inner.{FollowsModel}
use Rattle.session.proofs.session.Session.model_sheet.Goals as goal

pub returns-in-Err-clause-model : goal.returns-in-Err-clause-model
returns-in-Err-clause-model g c =
    if_ok_map c.answer_without_model.result _ _ (λ a h. not_modelled c.args.self.now.state.book c.args.sheet.0 a (h c.args.self.now.state.book c.args.sheet.0 c.in-Err.ensures.prepares)) c.answer_without_model.ensures.none

pub returns-in-Err-clause-said : goal.returns-in-Err-clause-said
returns-in-Err-clause-said g c =
    if_ok_map c.answer_without_model.result _ _ (λ a h. h c.args.self.now.state.book c.args.sheet.0 c.in-Err.ensures.prepares c.in-Err.ensures.said) c.answer_without_model.ensures.said
