use Rattle.std.proofs.Common.{◌+◌, ◌++◌, arith, drop}
use Rattle.workbook.specs.Files.{texts_in_records}
use Rattle.workbook.proofs.Gathering.{past, record_put}
use Rattle.workbook.proofs.gather.with_sheet.Goals as goal

pub returns-then-len-gt-TEXTS : goal.returns-then-len-gt-TEXTS
returns-then-len-gt-TEXTS c =
    let total = c.args.texts.items ++ texts_in_records c.args.sheet.0 0 c.args.rows.now in
    past c.add_record.new.texts.items (texts_in_records c.args.sheet.0 (c.loop-row.row + 1) (drop (c.loop-row.row + 1) c.args.rows.now)) total
    (omega (arith, c.if-len-gt-TEXTS.true, c.len.ensures))
    (record_put c.args.sheet.0 c.loop-row.row c.args.rows.now c.at.result.now c.loop-row.texts.items c.add_record.new.texts.items total c.at.ensures c.in-Ok.ensures c.loop-row.invariant.all)

pub loop-row-preserved : goal.loop-row-preserved
loop-row-preserved c = record {
  all = record_put c.args.sheet.0 c.loop-row.row c.args.rows.now c.at.result.now c.loop-row.texts.items c.add_record.new.texts.items
      (c.args.texts.items ++ texts_in_records c.args.sheet.0 0 c.args.rows.now) c.at.ensures c.in-Ok.ensures c.loop-row.invariant.all;
  few = omega (arith, c.if-len-gt-TEXTS.false, c.len.ensures);
}
