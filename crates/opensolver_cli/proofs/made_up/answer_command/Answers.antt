use Rattle.std.proofs.Common.{◌∙◌, ap, string_bytes}
use Rattle.opensolver_cli.specs.Counted.{CountedState}
use Rattle.opensolver_cli.proofs.MadeUpLaws.{was_said}
use Rattle.opensolver_cli.proofs.made_up.answer_command.Goals as goal

pub returns : goal.returns
returns g c = record {
  solves = was_said c.line_of.result (λ t. string_bytes t.0) (λ t. t.1) c.args.size _ c.session.inside.session.state c.apply.new.self.state _ c.in_ok-answer.answer (ap (λ (z : CountedState). z.state) c.session.view_is ∙ c.requires.opened) c.requires.solve c.in_ok-answer.ensures.step c.line_of.ensures.line c.line_of.ensures.refusal;
}
