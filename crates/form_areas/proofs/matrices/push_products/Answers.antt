use Rattle.std.proofs.Common.{arith, Ok, Err}
use Rattle.form_values.specs.Entries.{entry}
use Rattle.form_values.specs.Trials.{each_tried}
use Rattle.form_table.specs.Products.{product_at}
use Rattle.form_table.specs.Wanted.{grid_of}
use Rattle.form_ops.proofs.Answering.{then_answers}
use Rattle.form_areas.specs.Matrices.{element_at, places_in}
use Rattle.form_areas.proofs.Placed.{places_end, places_go, places_stop}
use Rattle.form_areas.proofs.matrices.push_products.Goals as goal

pub returns-in_err-product_at : goal.returns-in_err-product_at
returns-in_err-product_at c =
    let g = grid_of c.args.left.now in
    let h = grid_of c.args.right.now in
    places_stop (element_at g h) (λ column. (c.args.row, column)) (each_tried (element_at g h) (places_in h.columns c.args.row)) c.args.items.now.items c.loop-column.items.items c.loop-column.column h.columns _
    c.from_residual.result _ (omega (arith, c.columns_of-column-end.ensures, c.loop-column-test.true)) c.loop-column.invariant c.from_residual.ensures.1
    (then_answers entry (product_at g h (c.args.row, c.loop-column.column)) (Err _) c.in_err-product_at.ensures)

pub loop-column-preserved : goal.loop-column-preserved
loop-column-preserved c =
    let g = grid_of c.args.left.now in
    let h = grid_of c.args.right.now in
    places_go (element_at g h) (λ column. (c.args.row, column)) _ c.loop-column.items.items c.push.new.self.items _ c.loop-column.column h.columns
    (omega (arith, c.columns_of-column-end.ensures, c.loop-column-test.true)) c.in_ok-push.ensures.items c.loop-column.invariant
    (rw c.entry.ensures (then_answers entry (product_at g h (c.args.row, c.loop-column.column)) (Ok _) c.in_ok-product_at.ensures))

pub returns : goal.returns
returns c =
    let g = grid_of c.args.left.now in
    let h = grid_of c.args.right.now in
    places_end (element_at g h) (λ column. (c.args.row, column)) _ c.loop-column.items.items c.loop-column.column h.columns (omega (arith, c.columns_of-column-end.ensures, c.loop-column-test.false)) c.loop-column.invariant
