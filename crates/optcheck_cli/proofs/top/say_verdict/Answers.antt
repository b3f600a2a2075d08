use Rattle.std.specs.Prelude.{string_bytes}
use Rattle.optcheck_cli.proofs.Exactly.{ends_judging}
use Rattle.optcheck_cli.proofs.Running.{verdict_said}
use Rattle.optcheck_cli.proofs.top.say_verdict.Goals as goal

pub returns-in-Ok-clause-says : goal.returns-in-Ok-clause-says
returns-in-Ok-clause-says g c = λ d is.
    verdict_said c.args.book.now d (string_bytes c.in-Ok.line) c.as_str.result.now c.in-Ok.status (g.K.Sink.pieces c.args.out.now) (g.K.Sink.pieces c.say.new.out) c.say.result
    (c.in-Ok.ensures.tells d is) c.as_str.ensures.value c.say.ensures.says

pub returns-in-Ok-clause-ends : goal.returns-in-Ok-clause-ends
returns-in-Ok-clause-ends g c =
    ends_judging c.in-Ok.status c.as_str.result.now (g.K.Sink.pieces c.args.out.now) (g.K.Sink.pieces c.say.new.out) c.say.result c.in-Ok.ensures.judged c.say.ensures.says
