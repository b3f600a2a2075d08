-- What a command keeps that needs the forms of a sheet and writes back to its decision cells.
use Rattle.std.specs.Prelude.{is_some, Contains}
use Rattle.std.proofs.Common.{◌≡◌, inl, inr, true, List, Some, sym, ap, ◌∙◌, subst}
use Rattle.cell_refs.specs.declared.cell.Cell.{Cell}
use Rattle.recalculation.specs.Entries.{Book}
use Rattle.cell_refs.specs.declared.place.Place.{Place}
use Rattle.kept_marks.specs.FromTouchedPlaces.{DifferAt}
use Rattle.kept_marks.proofs.Marked.{entry_stays}
use Rattle.kept_tables.specs.Commands.{Keeps, Kept, LeavesAlone}
use Rattle.kept_tables.specs.Laws.{WriteBacksKeep}
use Rattle.kept_tables.specs.Settled.{AreRight, CanHaveForm, IsFull, Parts, SheetForms, all_marked, decisions_of, expressions_of, with_table}
use Rattle.kept_tables.specs.Tables.{dropped_for, has_sheet, is_for_once}
use Rattle.kept_tables.proofs.Needed.{after_right, after_settled, stays}
use Rattle.kept_tables.proofs.PutTables.{put_sheets}
use Rattle.kept_tables.proofs.Places.{edits_leave_right, same_sheets, stay, unnumbered, write_back_leaves_settled}
use Rattle.kept_tables.specs.Settled as settled

-- a place that is left alone could have a form before the edit where it can behind it
could : (book other : Book) (cells : List Cell) → DifferAt (Contains cells) book other → (parts : Parts) (p : Place) → LeavesAlone book parts cells p → CanHaveForm other parts p → CanHaveForm book parts p
could book other cells differ parts p (inl u) c =
    entry_stays other book (decisions_of parts) (expressions_of parts) cells (λ c n. sym (differ c n)) book p (λ to e w. u to e.0 w) c
could book other cells differ parts p (inr own) c =
    entry_stays other book (decisions_of parts) (expressions_of parts) cells (λ c n. sym (differ c n)) book p (λ to e w. unnumbered (decisions_of parts to) (own to e.0) e.1) c

module _ (before after : Kept) (t : SheetForms) (cells : List Cell) (gives : before.gives t.sheet ≡ Some t.parts) (right : AreRight before.book before.tables) (full : IsFull before.book t)
    (own : (c : Cell) → Contains cells c → is_some (decisions_of t.parts c) ≡ true) (still : after.gives t.sheet ≡ Some t.parts) (differ : DifferAt (Contains cells) before.book after.book) where
  abbrev middle : Kept
  middle = record { book = before.book; gives = before.gives; searching = before.searching; tables = with_table before.searching before.tables t }

  keeps : Keeps before (record { edited = cells; needed = Some t.sheet }) (record { book = after.book; gives = after.gives; searching = after.searching; tables = all_marked after.book cells middle.tables })
  keeps = record {
    sheets =
        same_sheets after.book cells middle.tables
        ∙ put_sheets t before.tables (has_sheet (settled.sheets_of before.tables) t.sheet) (is_for_once before.searching (settled.sheets_of before.tables) t.sheet)
        (dropped_for before.searching (settled.sheets_of before.tables) t.sheet);
    right = edits_leave_right before.book after.book cells middle.tables differ (after_right before t gives right full);
    stays = λ sheet parts p g k d c alone s.
        stay middle after cells differ sheet parts p g k alone
        (stays before t gives right full sheet parts p g d (could before.book after.book cells differ parts p alone c) s);
    all = λ o parts g.
        let e : Some t.parts ≡ Some parts = sym still ∙ g in
        let q : t.parts ≡ parts = cc in
        write_back_leaves_settled before.book after.book cells middle.tables before.gives after.gives t.sheet parts differ (subst (λ (x : Parts). (c : Cell) → Contains cells c → is_some (decisions_of x c) ≡ true) q own) g
        (after_settled before t gives right full o parts (gives ∙ ap Some q));
  }

pub write_backs_keep : WriteBacksKeep
write_backs_keep before after t cells gives right full own still differ e =
    let k = keeps before after t cells gives right full own still differ in
    subst (λ tables. Keeps before (record { edited = cells; needed = Some t.sheet }) (record { book = after.book; gives = after.gives; searching = after.searching; tables = tables })) (sym e)
    (record { sheets = k.sheets; right = k.right; stays = k.stays; all = k.all })
