use Rattle.std.proofs.Common.{◌∙◌, ap}
use Rattle.std.specs.FinSet as set
use Rattle.dep_table.proofs.Sets.{one_more}
use Rattle.dep_table.proofs.cells.CellSet.add.Goals as goal

pub returns-clause-ok : goal.returns-clause-ok
returns-clause-ok c =
    one_more c.self.inside.cells.keys c.insert.new.self.keys c.args.cell c.in-Ok.ensures.updates.0 ∙ ap (λ s. set.insert s c.args.cell) c.self.view_is
