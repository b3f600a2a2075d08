use Rattle.std.proofs.Common.{subst, sym}
use Rattle.sheet_linear_model.specs.Answers.{prepared_of}
use Rattle.sheet_linear_model.specs.Prepared.{IsPrepared}
use Rattle.session.specs.States.{SessionState}
use Rattle.session.proofs.Complete.{all_settled, none_settled}
use Rattle.session.proofs.Ends.{all_end, none_solved}
use Rattle.session.proofs.Said.{if_ok_map}
use Rattle.session.proofs.Leaving.{both_ok, end_leaves, follows_end}
use Rattle.session.proofs.Stopping.{end_stopped}
use Rattle.session.proofs.session.Session.solve_sheet.Goals as goal

pub returns-in-Ok-clause-step : goal.returns-in-Ok-clause-step
returns-in-Ok-clause-step g c =
    let prepares = subst (λ (s : SessionState). IsPrepared s.book c.args.sheet.0 (prepared_of c.in-Ok.prepared)) (sym c.prepare.ensures.same) c.in-Ok.ensures.prepares in
    rw (← c.prepare.ensures.same) (all_end _ c.prepare.new.self.state _ c.args.sheet.0 (prepared_of c.in-Ok.prepared) c.search.result prepares c.search.ensures.step)

pub returns-in-Err-clause-step : goal.returns-in-Err-clause-step
returns-in-Err-clause-step g c =
    rw c.prepare.ensures.same (none_solved c.args.self.now.state c.args.sheet.0 c.in-Err.stop c.answer_without_model.result c.in-Err.ensures.prepares c.answer_without_model.ensures.none _)

pub returns-in-Err-clause-said : goal.returns-in-Err-clause-said
returns-in-Err-clause-said g c =
    if_ok_map c.answer_without_model.result _ _ (λ a h. h c.args.self.now.state.book c.args.sheet.0 c.in-Err.ensures.prepares c.in-Err.ensures.said) c.answer_without_model.ensures.said

pub returns-in-Ok-clause-complete : goal.returns-in-Ok-clause-complete
returns-in-Ok-clause-complete g c =
    let prepares = subst (λ (s : SessionState). IsPrepared s.book c.args.sheet.0 (prepared_of c.in-Ok.prepared)) (sym c.prepare.ensures.same) c.in-Ok.ensures.prepares in
    rw (← c.prepare.ensures.same) (all_settled _ c.prepare.new.self.state _ c.args.sheet.0 (prepared_of c.in-Ok.prepared) c.search.result prepares c.search.ensures.step c.search.ensures.enough)

pub returns-in-Err-clause-complete : goal.returns-in-Err-clause-complete
returns-in-Err-clause-complete g c =
    none_settled _ c.args.self.now.state c.args.sheet.0 c.in-Err.stop c.answer_without_model.result c.in-Err.ensures.prepares c.answer_without_model.ensures.none

pub returns-in-Ok-clause-memory : goal.returns-in-Ok-clause-memory
returns-in-Ok-clause-memory g c =
    let prepares = subst (λ (s : SessionState). IsPrepared s.book c.args.sheet.0 (prepared_of c.in-Ok.prepared)) (sym c.prepare.ensures.same) c.in-Ok.ensures.prepares in
    rw (← c.prepare.ensures.same) (end_stopped _ c.prepare.new.self.state c.search.new.self.state c.args.sheet.0 (prepared_of c.in-Ok.prepared) c.search.result prepares c.search.ensures.memory)

pub returns-in-Ok-clause-follows : goal.returns-in-Ok-clause-follows
returns-in-Ok-clause-follows g c =
    let before = c.args.self.now in
    let middle = c.prepare.new.self in
    let p = prepared_of c.in-Ok.prepared in
    both_ok c.search.result _ _ _ (λ a step drops. follows_end before middle c.search.new.self c.args.sheet.0 p c.in-Ok.ensures.prepares c.prepare.ensures.same c.in-Ok.ensures.follows a
    (end_leaves _ middle.state p.statement p.model c.args.sheet.0 a c.search.new.self.state step) drops)
    c.search.ensures.step c.search.ensures.drops
