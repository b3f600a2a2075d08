use Rattle.cell_refs.proofs.SheetReading.{sheets_are_spelled}
use Rattle.cell_refs.proofs.sheet.sheets_are_spelled.Goals as goal

pub returns : goal.returns
returns c = sheets_are_spelled
