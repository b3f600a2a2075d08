use Rattle.std.proofs.Common.{◌<◌, ◌++◌, ◌∙◌, ap, length, subst}
use Rattle.recalculation.specs.Evaluation.{CellGrid}
use Rattle.recalculation.specs.Looks.{column_cells}
use Rattle.cell_grids.specs.Full.{IsFullGrid}
use Rattle.cell_grids.proofs.LookRows.{count_keys}
use Rattle.cell_grids.proofs.reference.Reference.first_column.Goals as goal

pub push_column-requires : goal.push_column-requires
push_column-requires c = subst (λ (g : CellGrid). 0 < g.columns) c.self.view_is c.self.invariant.some_columns

pub returns-clause-count : goal.returns-clause-count
returns-clause-count c =
    ap length c.in_ok-push_column.ensures ∙ ap (λ bs. length (bs ++ column_cells c.args.self.now 0)) c.new-keys.ensures.items
    ∙ count_keys c.args.self.now (subst IsFullGrid c.self.view_is c.self.invariant)
