use Rattle.std.proofs.Common.{◌∙◌, [], Err, ap, arith, length, refl, subst, sym}
use Rattle.std.specs.Prelude.{All}
use Rattle.std.proofs.lemmas.List.Elements.{All-nil}
use Rattle.sheet_csv.specs.Sheet.{sheet_records}
use Rattle.workbook.specs.Files.{bad_name_row, names_in}
use Rattle.workbook.specs.Scoped.{IsShort}
use Rattle.workbook.specs.Opened.{ReadsNames}
use Rattle.workbook.proofs.OpenLaws.{short_names}
use Rattle.workbook.proofs.Widths.{names_unread}
use Rattle.workbook.proofs.open.names_of.Goals as goal

pub returns : goal.returns
returns c =
    let read = c.in-Ok.ensures.reads in
    let named = c.in_ok-names.ensures.1 ∙ ap (names_in c.args.sheets.now []) read.0 in
    let rows = ap length read.0 in (
      (refl, read.1, read.2, read.3, read.4),
      omega (arith, c.if-len-gt-NAMES.false, c.len.ensures, rows),
      subst (λ l. All IsShort l) (sym named) (short_names c.args.sheets.now [] (sheet_records c.args.bytes.now) (All-nil IsShort) read.4),
      ap (bad_name_row c.args.sheets.now []) (sym read.0) ∙ c.in_ok-names.ensures.0,
      named,
    )

pub returns-in-Err : goal.returns-in-Err
returns-in-Err c =
    subst (λ f. ReadsNames c.args.sheets.now c.args.bytes.now (Err f)) (sym c.name_fault.ensures)
    (names_unread c.args.sheets.now c.args.bytes.now c.in-Err.fault c.requires c.in-Err.ensures.reads)
