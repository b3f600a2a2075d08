use Rattle.cell_refs.proofs.SheetReading.{no_dollar}
use Rattle.cell_refs.proofs.address.without_dollar.Goals as goal

pub returns-in-None : goal.returns-in-None
returns-in-None c = no_dollar c.args.text.now c.in-None.ensures.cases
