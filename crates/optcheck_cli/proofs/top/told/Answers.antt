use Rattle.std.proofs.lemmas.Result.{IfOk-weaker}
use Rattle.optcheck_cli.proofs.top.told.Goals as goal

pub returns-clause-tells : goal.returns-clause-tells
returns-clause-tells c =
    IfOk-weaker c.said_of.result _ _ (λ t tells d is. tells c.args.book.now d c.sheets.ensures is (c.in_ok-verdict.ensures.judges d is)) c.said_of.ensures.tells
