use Rattle.dictionaries.proofs.Reaching.{reached_on_the_way}
use Rattle.simplex.proofs.read.direction.Goals as goal

pub changes_of_cells-requires-clause-dictionary : goal.changes_of_cells-requires-clause-dictionary
changes_of_cells-requires-clause-dictionary c = (reached_on_the_way c.args.of.now c.args.dict.now c.rows-regular.ensures.regular c.requires.reached).dictionary

pub changes_of_cells-requires-clause-column : goal.changes_of_cells-requires-clause-column
changes_of_cells-requires-clause-column c = c.requires.end.enters.improves.column

pub changes_of_cells-requires-clause-improves : goal.changes_of_cells-requires-clause-improves
changes_of_cells-requires-clause-improves c = c.requires.end.enters.improves.entry
