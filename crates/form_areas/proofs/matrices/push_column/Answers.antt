use Rattle.std.proofs.Common.{arith}
use Rattle.sheet_funcs.proofs.Ranges.{items_go}
use Rattle.form_table.specs.Products.{at}
use Rattle.form_table.specs.Wanted.{grid_of}
use Rattle.form_areas.proofs.matrices.push_column.Goals as goal

pub loop-row-preserved : goal.loop-row-preserved
loop-row-preserved c =
    let g = grid_of c.args.arg.now in
    items_go (λ row. at g row c.args.column) _ c.loop-row.items.items c.push.new.self.items c.in_ok-copy_at.field-0 c.loop-row.row g.rows
    (omega (arith, c.rows_of-row-end.ensures, c.loop-row-test.true)) c.loop-row.invariant c.in_ok-push.ensures.items c.in_ok-copy_at.ensures
