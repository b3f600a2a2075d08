use Rattle.std.specs.Prelude.{string_bytes}
use Rattle.optcheck_cli.proofs.Running.{verdict_told}
use Rattle.optcheck_cli.proofs.say.said_of.Goals as goal

pub returns-clause-tells : goal.returns-clause-tells
returns-clause-tells c = λ b d same is verdict.
    verdict_told b d c.args.verdict.now c.args.sheets.now (string_bytes c.in_ok-line.line) c.status_by.result verdict same (c.in_ok-line.ensures d is) c.status_by.ensures.status
