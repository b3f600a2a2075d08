use Rattle.std.proofs.Common.{sym}
use Rattle.workbook.proofs.renamed.resaid_at.Goals as goal

pub saying_after-requires-clause-held : goal.saying_after-requires-clause-held
saying_after-requires-clause-held c = c.requires.held c.args.cell c.in-Some.held.now (sym c.in-Some.ensures.value)
