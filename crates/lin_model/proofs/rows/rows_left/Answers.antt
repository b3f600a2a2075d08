use Rattle.std.proofs.Common.{arith, suc, ◌+◌}
use Rattle.lin_model.proofs.Equal.{front}
use Rattle.lin_model.proofs.RowsLeft.{from_more, more_rows, more_narrow}
use Rattle.lin_model.proofs.rows.rows_left.Goals as goal

pub loop-place-preserved : goal.loop-place-preserved
loop-place-preserved c =
    let k = c.loop-place.place in
    let d = front c.args.of.now k c.index-of-place.result (omega arith) c.index-of-place.is in
    let e = front c.args.sides.now k c.index-sides-place.result (omega arith) c.index-sides-place.is in
    let m = from_more c.args.of.now c.args.sides.now k c.index-of-place.result c.index-sides-place.result d e in
    let p = c.in-Ok.ensures.pushed in
    record {
      rows = more_rows _ _ _ c.loop-place.rows.items p.0 c.push_left.new.rows.items _ m p.1 p.2 c.loop-place.invariant.rows;
      narrow = more_narrow _ _ _ (suc k) (suc (k + 1)) p.0 _ (omega arith) m p.1 c.loop-place.invariant.narrow;
      forms = λ h. c.loop-place.invariant.forms (rw e (c.in-Ok.ensures.forms, h));
    }
