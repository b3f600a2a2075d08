use Rattle.std.proofs.Common.{◌∙◌, ap}
use Rattle.workbook.specs.Held.{put_all}
use Rattle.workbook.proofs.Filling.{fills_on, fits_rest, fits_room}
use Rattle.workbook.proofs.open.with_texts.Goals as goal

pub put-requires-clause-room : goal.put-requires-clause-room
put-requires-clause-room c =
    fits_room c.loop-cell.workbook c.loop-cell.texts.items c.pop.new.self.items (c.in-Some.cell, c.in-Some.text) c.in-Some.ensures.items c.loop-cell.invariant.fits

pub loop-cell-preserved : goal.loop-cell-preserved
loop-cell-preserved c =
    let s = c.loop-cell.workbook in
    let fits = c.loop-cell.invariant.fits in
    let is = c.in_ok-put.ensures.ok in
    record {
      all = fills_on s c.loop-cell.texts.items c.pop.new.self.items (c.in-Some.cell, c.in-Some.text) c.in-Some.ensures.items fits c.put.new.self
          (put_all c.args.texts.items c.args.workbook.contents) is c.loop-cell.invariant.all;
      sheets = ap (λ u. u.sheets) is ∙ c.loop-cell.invariant.sheets;
      names = ap (λ u. u.names) is ∙ c.loop-cell.invariant.names;
      fits = fits_rest s c.loop-cell.texts.items c.pop.new.self.items (c.in-Some.cell, c.in-Some.text) c.in-Some.ensures.items fits c.put.new.self is;
    }
