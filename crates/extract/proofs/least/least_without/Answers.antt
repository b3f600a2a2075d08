use Rattle.std.proofs.Common.{sym, arith}
use Rattle.workbook.specs.Kinds.{book_of}
use Rattle.extract.specs.Knowing.{known_form}
use Rattle.extract.proofs.Lowest.{behind_all, from_start, one_more}
use Rattle.extract.proofs.least.least_without.Goals as goal

pub loop-place-init : goal.loop-place-init
loop-place-init c = (omega arith, sym (behind_all (known_form (book_of c.args.known.now.book.now) c.args.known.now.adj.now c.args.known.now.table.now) c.args.cells.now))

pub bounds-cells-place : goal.bounds-cells-place
bounds-cells-place c = omega (arith, c.loop-place.invariant.0, c.loop-place-test.true)

pub loop-place-preserved : goal.loop-place-preserved
loop-place-preserved c = (
  omega (arith, c.loop-place.invariant.0),
  one_more (known_form (book_of c.args.known.now.book.now) c.args.known.now.adj.now c.args.known.now.table.now) c.args.cells.now c.loop-place.place _ c.loop-place.least _ c.loop-place-test.true c.loop-place.invariant.0 c.loop-place.invariant.1 c.with_least-least.ensures,
)

pub returns : goal.returns
returns c = from_start (known_form (book_of c.args.known.now.book.now) c.args.known.now.adj.now c.args.known.now.table.now) c.args.cells.now c.loop-place.place c.loop-place.least c.loop-place-test.false c.loop-place.invariant.1
