use Rattle.std.proofs.Common.{ap, inr, subst, sym}
use Rattle.sheet_linear_model.specs.Prepared.{IsPrepared}
use Rattle.session.specs.States.{Session}
use Rattle.session.proofs.Cuts.{further_by}
use Rattle.session.proofs.session.Session.spend.Goals as goal

pub slice-requires-clause-prepared : goal.slice-requires-clause-prepared
slice-requires-clause-prepared g c =
    let p = c.requires.prepared in
    (p.0, p.1, subst (λ (x : Session). IsPrepared x.state.book p.0 p.1) (sym c.self.view_is) p.2, p.3, p.4)

pub returns-in_err-answer-clause-further : goal.returns-in_err-answer-clause-further
returns-in_err-answer-clause-further g c =
    further_by _ c.args.units c.self.inside.budget c.args.self.now.state.budget c.args.search.now c.slice.new.search (ap (λ (x : Session). x.state.budget) c.self.view_is) c.slice.ensures.further

pub returns-in-Ok-clause-further : goal.returns-in-Ok-clause-further
returns-in-Ok-clause-further g c =
    further_by _ c.args.units c.self.inside.budget c.args.self.now.state.budget c.args.search.now c.slice.new.search (ap (λ (x : Session). x.state.budget) c.self.view_is) c.slice.ensures.further

pub returns-in-Err-clause-further : goal.returns-in-Err-clause-further
returns-in-Err-clause-further g c =
    further_by _ c.args.units c.self.inside.budget c.args.self.now.state.budget c.args.search.now c.slice.new.search (ap (λ (x : Session). x.state.budget) c.self.view_is) c.slice.ensures.further

pub returns-in-Ok-clause-step : goal.returns-in-Ok-clause-step
returns-in-Ok-clause-step g c = rw (← c.self.view_is) (c.slice.new.self.book, c.in_ok-answer.ensures.slices, c.mark_written.ensures.state)

pub returns-in-Err-clause-memory : goal.returns-in-Err-clause-memory
returns-in-Err-clause-memory g c = rw (← c.self.view_is) (inr (c.in_ok-answer.answer, (c.slice.new.self.book, c.in_ok-answer.ensures.slices, c.mark_written.ensures.state)))
