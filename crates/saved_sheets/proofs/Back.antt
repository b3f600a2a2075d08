-- What is saved of a sheet reads back.
use Rattle.std.proofs.Common.{◌≡◌, ◌≢◌, ℕ, List, [], ◌∷◌, ap, ◌∙◌}
use Rattle.std.specs.Prelude.{All}
use Rattle.std.specs.FinMap.{from_entries, get}
use Rattle.std.specs.List.{range_with_len}
use Rattle.std.proofs.lemmas.List.Elements.{All-map}
use Rattle.cell_refs.specs.Cells.{cell_cmp}
use Rattle.sheet_csv.specs.Saved.{IsSaved}
use Rattle.sheet_csv.specs.Sheet.{Record, saved_text, sheet_records}
use Rattle.workbook.specs.Files.{texts_in_records}
use Rattle.workbook.specs.Filled.{TextsAreSome}
use Rattle.workbook.specs.State.{State}
use Rattle.workbook.specs.Saving.{saved_name, saved_names}
use Rattle.recalculation.specs.Entries.{Contents}
use Rattle.saved_sheets.specs.Laws.{NamesReadBack, ReadsBack}
use Rattle.saved_sheets.specs.Saving.{columns_used, rows_used, saved_row, saved_rows}
use Rattle.saved_sheets.proofs.SavedFields.{found_field, has_a_field, has_its_text}

-- each record has a field
have_fields : (contents : Contents) (sheet : ℕ) → All (λ row. row ≢ []) (saved_rows contents sheet)
have_fields contents sheet =
    All-map (λ (row : Record). row ≢ []) (saved_row contents sheet) (range_with_len 0 (rows_used contents sheet))
    (λ k d h. has_a_field contents sheet _ (columns_used contents sheet _))

pub reads_back : (book : State) (sheet : ℕ) → TextsAreSome book
    → (IsSaved (saved_rows book.contents sheet) → sheet_records (saved_text (saved_rows book.contents sheet)) ≡ saved_rows book.contents sheet) → ReadsBack book sheet
reads_back book sheet some back unmarked cell on =
    ap (λ (rows : List Record). get (from_entries {R = cell_cmp} (texts_in_records sheet 0 rows)) cell) (back (record { fields = have_fields book.contents sheet; unmarked = unmarked }))
    ∙ found_field sheet (saved_rows book.contents sheet) cell on ∙ has_its_text book.contents sheet some cell on

pub names_read_back : (book : State) → (IsSaved (saved_names book.names) → sheet_records (saved_text (saved_names book.names)) ≡ saved_names book.names) → NamesReadBack book
names_read_back book back unmarked = back (record {
  fields = All-map (λ (row : Record). row ≢ []) saved_name book.names (λ k d h. λ e. cc);
  unmarked = unmarked;
})
