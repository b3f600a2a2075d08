use Rattle.std.proofs.Common.{◌∙◌, ap, arith, Err, Ok, subst, sym}
use Rattle.std.specs.Prelude.{All}
use Rattle.std.proofs.lemmas.List.{take_all}
use Rattle.workbook.specs.Files.{SheetFile}
use Rattle.workbook.specs.Gathered.{records_of}
use Rattle.workbook.specs.Opened.{ReadsFiles}
use Rattle.workbook.specs.Opening.{IsRead, sheet_limits}
use Rattle.workbook.proofs.Listing.{all_read, at_index, is_read, read_as, records_up_to, unread}
use Rattle.workbook.proofs.open.read_files.Goals as goal

pub returns-in-Err : goal.returns-in-Err
returns-in-Err c =
    let file = c.index-files-place.result in
    subst (λ r. ReadsFiles c.args.files.now (Err r)) (sym c.sheet_fault.ensures)
    (unread c.args.files.now c.loop-place.place file c.in-Err.fault (at_index c.args.files.now c.loop-place.place file c.loop-place-test.true c.index-files-place.is) c.loop-place.invariant.read
    (read_as file (Err c.in-Err.fault) c.from.result c.from-2.result c.deref.result.now c.from.ensures c.from-2.ensures (c.deref.ensures.value ∙ ap (λ f. f.bytes) c.file.view_is) c.in-Err.ensures.reads))

pub loop-place-preserved : goal.loop-place-preserved
loop-place-preserved c =
    let file = c.index-files-place.result in
    let read = is_read file c.in-Ok.rows
    (read_as file (Ok c.in-Ok.rows) c.from.result c.from-2.result c.deref.result.now c.from.ensures c.from-2.ensures (c.deref.ensures.value ∙ ap (λ f. f.bytes) c.file.view_is) c.in-Ok.ensures.reads) in
    record {
      read = all_read c.args.files.now c.loop-place.place file c.loop-place-test.true c.index-files-place.is c.loop-place.invariant.read read.0;
      records = records_up_to c.args.files.now c.loop-place.place file c.loop-place.sheets.items c.push_rows.new.sheets.items c.in-Ok.rows c.loop-place-test.true c.index-files-place.is
          c.loop-place.invariant.records read.1 c.in-Ok-push_rows.ensures;
    }

pub returns : goal.returns
returns c =
    let all = take_all c.loop-place.place c.args.files.now (omega (arith, c.loop-place-test.false)) in
    (subst (λ l. All (λ (f : SheetFile). IsRead sheet_limits f.bytes) l) all c.loop-place.invariant.read, c.loop-place.invariant.records ∙ ap records_of all)
