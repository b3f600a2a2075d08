use Rattle.command_line.proofs.SheetLaws.{behind, nowhere}
use Rattle.command_line.proofs.sheets.last_part.Goals as goal

pub returns-in-Some : goal.returns-in-Some
returns-in-Some c = behind c.args.path.now c.in-Some.field-0-0.now c.in-Some.part.now c.in-Some.ensures.cases

pub returns-in-None : goal.returns-in-None
returns-in-None c = nowhere c.args.path.now c.in-None.ensures.cases
