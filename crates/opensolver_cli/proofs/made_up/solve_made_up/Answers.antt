use Rattle.std.proofs.Common.{◌≡◌, ap, string_bytes, sym, ◌∙◌}
use Rattle.opensolver_cli.specs.MadeUp.{status_by}
use Rattle.opensolver_cli.proofs.MadeUpLaws.{answer_said}
use Rattle.opensolver_cli.proofs.made_up.solve_made_up.Goals as goal
use Rattle.opensolver_cli.proofs.made_up.solve_made_up.Goals.{then-refused, else-refused}

pub returns-clause-solves : goal.returns-clause-solves
returns-clause-solves g c =
    let by : c.if-refused.status ≡ status_by c.in-Ok.refused = elim c.if-refused.branch [
      | then-refused w ↦ w.status-is ∙ sym (ap status_by w.if-refused.true)
      | else-refused w ↦ w.status-is ∙ sym (ap status_by w.if-refused.false)
    ] in
    answer_said _ c.args.size (string_bytes c.in-Ok.text) c.in-Ok.refused c.as_str.result.now c.if-refused.status (g.K.Sink.pieces c.args.out.now) (g.K.Sink.pieces c.say.new.out) c.say.result c.in-Ok.ensures c.as_str.ensures.value by
    c.say.ensures.says
