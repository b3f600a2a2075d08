use Rattle.command_line.proofs.SheetLaws.{ending}
use Rattle.command_line.proofs.sheets.before_csv.Goals as goal

pub returns : goal.returns
returns c = ending c.args.word.now c.strip_suffix.result c.strip_suffix.ensures.cases
