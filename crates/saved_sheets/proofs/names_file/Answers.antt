use Rattle.std.proofs.Common.{◌≡◌, subst}
use Rattle.sheet_csv.specs.Saved.{IsSaved}
use Rattle.sheet_csv.specs.Sheet.{saved_text, sheet_records}
use Rattle.saved_sheets.proofs.Back.{names_read_back}
use Rattle.saved_sheets.proofs.names_file.Goals as goal

pub returns-clause-reads_back : goal.returns-clause-reads_back
returns-clause-reads_back c =
    names_read_back c.args.book.now
    (subst (λ rows. IsSaved rows → sheet_records (saved_text rows) ≡ rows) c.in_ok-rows.ensures c.write_sheet.ensures.reads_back)
