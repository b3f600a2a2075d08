use Rattle.workbook.proofs.AsFound.{saved_as_found}
use Rattle.workbook.proofs.open.names_are_saved_as_found.Goals as goal

pub returns : goal.returns
returns c = saved_as_found
