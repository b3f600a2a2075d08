-- What is shown of a cell is one, and so is what is answered of a model and of files.
use Rattle.std.proofs.Common.{◌≡◌, ◌≢◌, ◌∙◌, ℕ, true≢false, refl, sym, ap}
use Rattle.std.specs.Ordering.{ordering_reverse}
use Rattle.std.specs.Prelude.{Vec}
use Rattle.std.specs.Global.{Global}
use Rattle.std.specs.declared.cmp.Ordering.{Ordering}
use Rattle.std.specs.declared.cmp.Ordering.TheVariants.{Less, Equal, Greater}
use Rattle.cell_refs.proofs.Order.{cells_total, exact_cells}
use Rattle.cell_refs.specs.Cells.{cell_cmp}
use Rattle.cell_refs.specs.declared.cell.Cell.{Cell}
use Rattle.model_lines.specs.Lines.{ModelLines}
use Rattle.recalc.specs.Showing.{IsShown}
use Rattle.recalc.specs.declared.shown.Shown.TheVariants as shown
use Rattle.recalculation.specs.Entries.{Book, no_overriding}
use Rattle.recalculation.specs.Narrow.{IsLeastWide, NoneIsWide}
use Rattle.session.specs.FromSheetLinearModel.{HasNoModel}
use Rattle.session.specs.FromSheetLinearModel.{lines_of}
use Rattle.session.specs.FromSheetLinearModel.{IsPrepared, Prepared}
use Rattle.sheet_model.specs.declared.value.Value.{Value}
use Rattle.workbook.specs.Kinds.{book_of}
use Rattle.workbook.specs.State.{State}
use Rattle.commands.specs.Saved.{SavedFile}
use Rattle.commands.specs.declared.answer.Answer.{Answer}
use Rattle.commands.specs.declared.answer.Answer.TheVariants as answer
use Rattle.session.specs.Models.{Models}
use Rattle.session.specs.Saves.{Saves, files_to_save}
use Rattle.session.specs.States.{SessionState}
use Rattle.session.specs.Steps.{Shows}
use Rattle.session_laws.specs.Answers.{SameAnswer}
use Rattle.session.proofs.FromSheetLinearModel.{never_both, prepared_is_one}
use Rattle.session_laws.proofs.Models.{one_without_model}
use Rattle.session_laws.proofs.Same.{equal_are_same, same_by}

-- ---- cells
-- of two cells that aren't greater than each other
same_cell : (a b : Cell) → cell_cmp a b ≢ Greater → cell_cmp b a ≢ Greater → a ≡ b
same_cell a b h k = by (cell_cmp a b) refl
  where
    by : (o : Ordering) → cell_cmp a b ≡ o → a ≡ b
    by Less e = absurd (k (cells_total.antisymm b a ∙ ap ordering_reverse e))
    by Equal e = exact_cells a b e
    by Greater e = absurd (h e)

one_least : (book : Book) (from c d : Cell) → IsLeastWide book no_overriding from c → IsLeastWide book no_overriding from d → c ≡ d
one_least book from c d h k = same_cell c d (h.least d k.looked k.wide) (k.least c h.looked h.wide)

none_and_one : (book : Book) (from c : Cell) → NoneIsWide book no_overriding from → IsLeastWide book no_overriding from c → ⊥
none_and_one book from c h k = true≢false (sym k.wide ∙ h c k.looked)

-- a value is shown, or a wide cell is named
data Showing (before : SessionState) (cell : Cell) (a : Answer) (after : SessionState) : Type 0 where
  value : (v : Value) → a ≡ answer.Shown v → IsShown (book_of before.book) cell (shown.Is v) → after ≡ before → Showing before cell a after
  wide : (c : Cell) → a ≡ answer.WideCell c → IsShown (book_of before.book) cell (shown.Wide c) → after ≡ before → Showing before cell a after

showing : (before : SessionState) (cell : Cell) (a : Answer) (after : SessionState) → Shows before cell a after → Showing before cell a after
showing before cell (answer.Shown v) after h = value v refl h.0 h.1
showing before cell (answer.WideCell c) after h = wide c refl h.0 h.1
showing before cell _ after h = absurd h

one_showing : (before m n : SessionState) (cell : Cell) (a b : Answer) → Showing before cell a m → Showing before cell b n → (a ≡ b) × (m ≡ n)
one_showing before m n cell a b (value v e h s) (value w f k r) = (e ∙ (ap answer.Shown (sym h.0 ∙ k.0) ∙ sym f), s ∙ sym r)
one_showing before m n cell a b (value v e h s) (wide c f k r) = absurd (none_and_one (book_of before.book) cell c h.1 k)
one_showing before m n cell a b (wide c e h s) (value v f k r) = absurd (none_and_one (book_of before.book) cell c k.1 h)
one_showing before m n cell a b (wide c e h s) (wide d f k r) = (e ∙ (ap answer.WideCell (one_least (book_of before.book) cell c d h k) ∙ sym f), s ∙ sym r)

pub shows_once : (before m n : SessionState) (cell : Cell) (a b : Answer) → Shows before cell a m → Shows before cell b n → SameAnswer a b × (m ≡ n)
shows_once before m n cell a b h k =
    let one = one_showing before m n cell a b (showing before cell a m h) (showing before cell b n k) in (equal_are_same a b one.0, one.1)

-- ---- models
-- the lines of a model are answered, or why there is none
data Telling (book : State) (sheet : ℕ) (a : Answer) : Type 0 where
  model : (lines : ModelLines) (p : Prepared) → a ≡ answer.Model lines → IsPrepared book sheet p → lines ≡ lines_of p → Telling book sheet a
  none : HasNoModel book sheet a → Telling book sheet a

telling : (book : State) (sheet : ℕ) (a : Answer) → Models book sheet a → Telling book sheet a
telling book sheet (answer.Model lines) h = model lines h.0 refl h.1 h.2
telling book sheet a h = none h

one_telling : (book : State) (sheet : ℕ) (a b : Answer) → Telling book sheet a → Telling book sheet b → SameAnswer a b
one_telling book sheet a b (model lines p e h l) (model others q f k r) =
    equal_are_same a b (e ∙ (ap answer.Model (l ∙ (ap lines_of (prepared_is_one book sheet p q h k) ∙ sym r)) ∙ sym f))
one_telling book sheet a b (model lines p e h l) (none k) = absurd (never_both book sheet p b h k)
one_telling book sheet a b (none h) (model others q f k r) = absurd (never_both book sheet q a k h)
one_telling book sheet a b (none h) (none k) = one_without_model book sheet a b h k

pub models_once : (book : State) (sheet : ℕ) (a b : Answer) → Models book sheet a → Models book sheet b → SameAnswer a b
models_once book sheet a b h k = one_telling book sheet a b (telling book sheet a h) (telling book sheet b k)

-- ---- files
record Saving (before : SessionState) (a : Answer) (after : SessionState) : Type 0 where
  files : Vec SavedFile Global
  is : a ≡ answer.ToSave files
  all : files.items ≡ files_to_save before
  unchanged : after ≡ before

saving : (before : SessionState) (a : Answer) (after : SessionState) → Saves before a after → Saving before a after
saving before (answer.ToSave files) after h = record { files = files; is = refl; all = h.0; unchanged = h.1 }
saving before _ after h = absurd h

pub saves_once : (before m n : SessionState) (a b : Answer) → Saves before a m → Saves before b n → SameAnswer a b × (m ≡ n)
saves_once before m n a b h k =
    let x = saving before a m h in
    let y = saving before b n k in
    (same_by a b (answer.ToSave x.files) (answer.ToSave y.files) x.is y.is (x.all ∙ sym y.all), x.unchanged ∙ sym y.unchanged)
