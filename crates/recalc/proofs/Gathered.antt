-- Cells gathered one by one.
use Rattle.std.proofs.Common.{◌≡◌, Bool, true, false, cond, List, [], ◌∷◌, Option, Some, None, refl, sym, ap, ◌∙◌}
use Rattle.std.specs.Prelude.{is_some}
use Rattle.std.specs.BTreeMap.{is_at}
use Rattle.std.specs.FinMap.{contains_key}
use Rattle.std.specs.Ordering.{is_eq, is_lt, ordering_reverse}
use Rattle.std.specs.declared.cmp.Ordering.TheVariants.{Less, Equal, Greater}
use Rattle.cell_refs.specs.declared.cell.Cell.{Cell}
use Rattle.cell_refs.specs.Cells.{cell_cmp}
use Rattle.cell_refs.proofs.Order.{cells_total, exact_cells}
use Rattle.dep_table.proofs.OpenLaws.{is_past}
use Rattle.recalculation.specs.Entries.{Book, Entry, entry}
use Rattle.recalculation.proofs.Circles.{entry_there}
use Rattle.sheet_model.specs.declared.value.Value.TheVariants as value
use Rattle.workbook.specs.declared.text_cell.TextCell.{TextCell}
use Rattle.workbook.specs.Contents.{IsLast, IsNext, IsPast, kind_of}
use Rattle.workbook.specs.Kinds.{book_of}
use Rattle.workbook.specs.State.{State}
use Rattle.workbook.specs.TextCells.{AreTextCells, IsRead, listed_cells}
use Rattle.workbook.proofs.TextCells.{IsChain, are_chain}
use Rattle.recalc.specs.declared.rows.Row.{Row}
use Rattle.recalc.specs.declared.values.Values.{Values}
use Rattle.recalc.specs.Rows.{row_at, seen_by, seen_in, seen_of}
use Rattle.recalc.specs.Values.{HasSeen, IsTable, value_at}
use Rattle.recalc.proofs.Saying.{seen_as}

-- what is seen of the cells up to one is there, and nothing else
pub record HasUpTo (book : Book) (rows : List (Cell × Row)) (after : Option Cell) (t : Values) : Type 0 where
  pub table : IsTable t
  pub before : (q : Cell) → is_past after q ≡ false → value_at t q ≡ seen_in book rows q
  pub behind : (q : Cell) → is_past after q ≡ true → value_at t q ≡ Some value.Empty

pub none_yet : (book : Book) (rows : List (Cell × Row)) (t : Values) → IsTable t → ((q : Cell) → value_at t q ≡ Some value.Empty) → HasUpTo book rows None t
none_yet book rows t table empty = record { table = table; before = λ q h. absurd cc; behind = λ q h. empty q }

is_past_of : (after : Option Cell) (a : Cell) → is_past after a ≡ true → IsPast after a
is_past_of None a h = tt
is_past_of (Some b) a h = by (cell_cmp b a) h
  where
    by : (o : _) → is_lt o ≡ true → o ≡ Less
    by Less h = refl
    by Equal h = absurd cc
    by Greater h = absurd cc

-- a cell without a text is empty
empty_by : (e : Option Entry) (row : Option Row) → is_some e ≡ false → seen_by e row ≡ Some value.Empty
empty_by None row h = refl
empty_by (Some e) row h = absurd cc

never : (b : Bool) → (b ≡ true → ⊥) → b ≡ false
never true h = absurd (h refl)
never false h = refl

seen_empty : (book : Book) (rows : List (Cell × Row)) (q : Cell) → (contains_key book.texts q ≡ true → ⊥) → seen_in book rows q ≡ Some value.Empty
seen_empty book rows q h = empty_by (entry book q) (row_at rows q) (never (is_some (entry book q)) (λ e. h (sym (entry_there book q) ∙ e)))

module _ (book : Book) (rows : List (Cell × Row)) (after : Option Cell) (cell : Cell) (t new : Values) (has : HasUpTo book rows after t) (next : IsNext book.texts after cell)
    (table : IsTable new) (put : (q : Cell) → value_at new q ≡ cond (is_at (cell_cmp cell) q) (seen_in book rows cell) (value_at t q)) where
  -- at another cell
  other : (q : Cell) → is_at (cell_cmp cell) q ≡ false → value_at new q ≡ value_at t q
  other q differs = put q ∙ ap (λ b. cond b (seen_in book rows cell) (value_at t q)) differs

  -- at a cell before the next one
  at_before : (q : Cell) → cell_cmp q cell ≡ Less → value_at t q ≡ seen_in book rows q
  at_before q less = by (is_past after q) refl
    where
      by : (b : Bool) → is_past after q ≡ b → value_at t q ≡ seen_in book rows q
      by false h = has.before q h
      by true h = has.behind q h ∙ sym (seen_empty book rows q (λ text. next.least q text (is_past_of after q h) less))

  pub up_to_next : HasUpTo book rows (Some cell) new
  up_to_next = record {
    table = table;
    before = λ q h. by q (cell_cmp cell q) refl h;
    behind = λ q h. let less = is_past_of (Some cell) q h in other q (ap is_eq less) ∙ has.behind q (later after q (next.past) less);
  }
    where
      by : (q : Cell) (o : _) → cell_cmp cell q ≡ o → is_lt o ≡ false → value_at new q ≡ seen_in book rows q
      by q Less e h = absurd cc
      by q Equal e h = put q ∙ ap (λ b. cond b (seen_in book rows cell) (value_at t q)) (ap is_eq e) ∙ ap (seen_in book rows) (exact_cells cell q e)
      by q Greater e h = other q (ap is_eq e) ∙ at_before q (cells_total.antisymm q cell ∙ ap ordering_reverse e)

      later : (after : Option Cell) (q : Cell) → IsPast after cell → cell_cmp cell q ≡ Less → is_past after q ≡ true
      later None q h less = refl
      later (Some b) q h less = ap is_lt (cells_total.trans b cell q h less)

pub all_seen : (book : Book) (rows : List (Cell × Row)) (after : Option Cell) (t : Values) → HasUpTo book rows after t → IsLast book.texts after → HasSeen book rows t
all_seen book rows after t has last q = by (is_past after q) refl
  where
    by : (b : Bool) → is_past after q ≡ b → value_at t q ≡ seen_in book rows q
    by false h = has.before q h
    by true h = has.behind q h ∙ sym (seen_empty book rows q (λ text. last q text (is_past_of after q h)))

-- ---- cells that are listed
-- what is seen of the cells before those of a list is there, and nothing else
abbrev pub HasCome : State → List (Cell × Row) → List TextCell → Values → Type 0
HasCome state rows left t = (after : Option Cell) × HasUpTo (book_of state) rows after t × IsChain state.contents after (listed_cells left)

pub at_first : (state : State) (rows : List (Cell × Row)) (found : List TextCell) (t : Values) → AreTextCells state.contents (listed_cells found) → IsTable t
    → ((q : Cell) → value_at t q ≡ Some value.Empty) → HasCome state rows found t
at_first state rows found t are table empty = (None, none_yet (book_of state) rows t table empty, are_chain state.contents (listed_cells found) are)

-- what is seen of a cell that is read
seen_read : (state : State) (rows : List (Cell × Row)) (e : TextCell) → IsRead state e → seen_of e.kind e.text.now (row_at rows e.cell) ≡ seen_in (book_of state) rows e.cell
seen_read state rows e read =
    ap (λ k. seen_of k e.text.now (row_at rows e.cell)) read.kind
    ∙ ap (λ t. seen_of (kind_of (entry (book_of state) e.cell)) t (row_at rows e.cell)) read.text ∙ seen_as state e.cell (row_at rows e.cell)

pub with_cell : (state : State) (rows : List (Cell × Row)) (e : TextCell) (left : List TextCell) (t new : Values) → IsRead state e → HasCome state rows (e ∷ left) t
    → IsTable new → ((q : Cell) → value_at new q ≡ cond (is_at (cell_cmp e.cell) q) (seen_of e.kind e.text.now (row_at rows e.cell)) (value_at t q))
    → HasCome state rows left new
with_cell state rows e left t new read has table put = (
  Some e.cell,
  up_to_next (book_of state) rows has.0 e.cell t new has.1 has.2.0 table
      (λ q. put q ∙ ap (λ v. cond (is_at (cell_cmp e.cell) q) v (value_at t q)) (seen_read state rows e read)),
  has.2.1,
)

pub all_come : (state : State) (rows : List (Cell × Row)) (t : Values) → HasCome state rows [] t → HasSeen (book_of state) rows t
all_come state rows t has = all_seen (book_of state) rows has.0 t has.1 has.2
