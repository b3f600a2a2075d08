use Rattle.dictionaries.proofs.Reaching.{reached_on_the_way}
use Rattle.simplex.proofs.read.cell_change.Goals as goal

pub change_of_cell-requires-clause-dictionary : goal.change_of_cell-requires-clause-dictionary
change_of_cell-requires-clause-dictionary c = (reached_on_the_way c.args.of.now c.args.dict.now c.rows-regular.ensures.regular c.requires.reached).dictionary

pub change_of_cell-requires-clause-column : goal.change_of_cell-requires-clause-column
change_of_cell-requires-clause-column c = c.requires.end.enters.improves.column

pub change_of_cell-requires-clause-improves : goal.change_of_cell-requires-clause-improves
change_of_cell-requires-clause-improves c = c.requires.end.enters.improves.entry
