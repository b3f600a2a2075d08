use Rattle.needed_cells.proofs.Sides.{none_more, side_found}
use Rattle.needed_cells.proofs.looks.tree_of.Goals as goal

pub returns-then-side-number : goal.returns-then-side-number
returns-then-side-number c = side_found c.args.number c.args.sides.now c.loop-side.side-index c.side-item.result c.loop-side.invariant c.loop-side-test.true c.side-item.is c.if-side-number.true

pub loop-side-preserved : goal.loop-side-preserved
loop-side-preserved c = none_more c.args.number c.args.sides.now c.loop-side.side-index c.side-item.result c.loop-side.invariant c.loop-side-test.true c.side-item.is c.if-side-number.false
