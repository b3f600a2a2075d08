use Rattle.std.proofs.Common.{◌∙◌, sym}
use Rattle.workbook.proofs.Gathering.{left_from}
use Rattle.workbook.proofs.Listing.{bad_here, bad_later, names_go_on}
use Rattle.workbook.proofs.open.names_in.Goals as goal

pub returns-then-not-is_new : goal.returns-then-not-is_new
returns-then-not-is_new c =
    bad_here c.args.sheets.now c.loop-place.place c.args.rows.now c.at.result.now c.loop-place.names (left_from c.args.rows.now c.loop-place.place c.at.result.now c.at.ensures)
    c.loop-place.invariant.good (sym c.in-Ok.ensures.0 ∙ c.if-not-is_new.true)

pub loop-place-preserved : goal.loop-place-preserved
loop-place-preserved c =
    let at = left_from c.args.rows.now c.loop-place.place c.at.result.now c.at.ensures in
    let now = rw c.if-not-is_new.false at c.in-Ok.ensures in
    record {
      good = bad_later c.args.sheets.now c.loop-place.place c.args.rows.now c.at.result.now c.loop-place.names at c.loop-place.invariant.good c.put_name.new.names now.1 (sym now.0);
      named = names_go_on c.args.sheets.now c.loop-place.place c.args.rows.now c.at.result.now c.loop-place.names at c.loop-place.invariant.good c.put_name.new.names now.1 c.loop-place.invariant.named;
    }
