-- A wide cell has a text, so it lies on one of the sheets.
use Rattle.std.proofs.Common.{◌≡◌, ℕ, Bool, true, false, ◌&&◌, List, Option, Some, None, not, refl}
use Rattle.std.specs.Prelude.{is_some}
use Rattle.std.specs.FinMap.{get}
use Rattle.std.specs.Option.{option_map}
use Rattle.cell_refs.specs.declared.cell.Cell.{Cell}
use Rattle.sheet_model.specs.declared.value.Value.{Value}
use Rattle.recalculation.specs.Entries.{Entry, no_overriding}
use Rattle.recalculation.specs.Narrow.{entry_is_wide, is_wide, known}
use Rattle.recalculation.specs.Walks.{is_circular}
use Rattle.workbook.specs.Kinds.{book_of, says}
use Rattle.cell_refs.specs.Listed.{IsListed}
use Rattle.workbook.specs.Listed.{TextsAreListed}
use Rattle.workbook.specs.State.{State}

has_text : (circular : Bool) (f : Cell → Option Value) (says : List ℕ → Entry) (o : Option (List ℕ)) → (not circular && entry_is_wide f (option_map says o)) ≡ true
    → (text : List ℕ) × (o ≡ Some text)
has_text true f says o h = absurd (cc)
has_text false f says None h = absurd (cc)
has_text false f says (Some text) h = (text, refl)

pub wide_is_listed : (state : State) (c : Cell) → TextsAreListed state → is_wide (book_of state) no_overriding c ≡ true → IsListed state.sheets c
wide_is_listed state c listed wide =
    let book = book_of state in
    let found = has_text (is_circular book (λ b. is_some (no_overriding b)) c) (known book no_overriding) (says state.sheets state.names c) (get state.contents c) wide in
    listed c found.0 found.1
