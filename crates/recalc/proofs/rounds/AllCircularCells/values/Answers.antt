use Rattle.std.proofs.Common.{[], Option, Some, arith}
use Rattle.cell_refs.specs.Areas.{cell_at}
use Rattle.cell_refs.specs.declared.cell.Cell.{Cell}
use Rattle.cell_refs.specs.declared.error_kind.ErrorKind.TheVariants as kind
use Rattle.sheet_model.specs.declared.value.Value.{Value}
use Rattle.sheet_model.specs.declared.value.Value.TheVariants.{Error}
use Rattle.recalc.proofs.AreaValues.{each_known, known_more, one_value}
use Rattle.recalc.proofs.rounds.AllCircularCells.values.Goals as goal

abbrev circular : Cell → Option Value
circular _ = Some (Error kind.Circular)

pub loop-preserved : goal.loop-preserved
loop-preserved c = record {
  known = known_more circular (cell_at c.args.area.now) c.loop.counter c.loop.invariant.known;
  values = one_value circular (cell_at c.args.area.now) c.loop.counter [] c.loop.values.items c.push.new.self.items c.loop.invariant.values c.in_ok-push.ensures.items;
}

pub returns-clause-values : goal.returns-clause-values
returns-clause-values c =
    let upto = c.loop.auto.counter-end in
    let end = c.loop-test.false in
    each_known circular c.args.area.now c.loop.counter c.loop.values.items (omega (arith, upto, end, c.len-end.ensures)) c.loop.invariant.known c.loop.invariant.values
