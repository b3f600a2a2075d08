-- A text in a cell and numbers in others: whichever is put first.
use Rattle.std.proofs.Common.{◌≡◌, ℕ, suc, Bool, true, false, cond, List, [], ◌∷◌, map, Option, Some, None, refl, sym, ap, ◌∙◌}
use Rattle.std.specs.Prelude.{option_map, position, zip}
use Rattle.std.specs.FinMap.{get, get-insert, insert, same_map}
use Rattle.std.specs.Ordering.{eq_by_cmp}
use Rattle.fractions.specs.Rational.{ℚ}
use Rattle.cell_refs.specs.Cells.{cell_cmp, is_same_cell}
use Rattle.cell_refs.specs.declared.cell.Cell.{Cell}
use Rattle.cell_refs.proofs.Order.{cells_total, exact_cells}
use Rattle.form_extraction.specs.Places.{numbered_in}
use Rattle.recalculation.specs.Entries.{Contents}
use Rattle.workbook.specs.Edits.{after_set}
use Rattle.workbook.specs.Several.{with_texts}
use Rattle.workbook.specs.State.{State}
use Rattle.write_back.specs.Writing.{number_text, with_numbers}
use Rattle.parameter_problems.proofs.Numbering.{position_first, position_next}
use Rattle.sheet_quick.proofs.Cells.{ordered, other_by, same_by_order}

-- two cells that aren't one
apart : (a b : Cell) → is_same_cell a b ≡ false → (c : Cell) → eq_by_cmp cell_cmp c a ≡ true → eq_by_cmp cell_cmp c b ≡ false
apart a b other c is = ordered b c false (other_by a b c other (same_by_order a c is))

module _ (m : Contents) (a b : Cell) (t u : List ℕ) (other : is_same_cell a b ≡ false) where
  either : (c : Cell) → get (insert (insert m a t) b u) c ≡ get (insert (insert m b u) a t) c
  either c =
      get-insert cells_total (insert m a t) b u c ∙ ap (λ o. cond (eq_by_cmp cell_cmp c b) (Some u) o) (get-insert cells_total m a t c)
      ∙ by (eq_by_cmp cell_cmp c a) (eq_by_cmp cell_cmp c b) (apart a b other c)
      ∙ sym (get-insert cells_total (insert m b u) a t c ∙ ap (λ o. cond (eq_by_cmp cell_cmp c a) (Some t) o) (get-insert cells_total m b u c))
    where
      by : (p q : Bool) → (p ≡ true → q ≡ false) → cond q (Some u) (cond p (Some t) (get m c)) ≡ cond p (Some t) (cond q (Some u) (get m c))
      by true true h = let no : true ≡ false = h refl in cc
      by true false h = refl
      by false q h = refl

  pub put_either : insert (insert m a t) b u ≡ insert (insert m b u) a t
  put_either = same_map cells_total exact_cells (insert (insert m a t) b u) (insert (insert m b u) a t) either

-- texts in cells other than this one
all_either : (cells : List Cell) (texts : List (List ℕ)) (m : Contents) (c : Cell) (u : List ℕ) → numbered_in cells c ≡ None
    → with_texts (insert m c u) (zip cells texts) ≡ insert (with_texts m (zip cells texts)) c u
all_either [] texts m c u none = refl
all_either (a ∷ cells) [] m c u none = refl
all_either (a ∷ cells) (t ∷ texts) m c u none = by (λ none. all_either cells texts (insert m a t) c u none) (is_same_cell c a) refl
  where
    behind : (o : Option ℕ) → option_map suc o ≡ None → o ≡ None
    behind None e = refl
    behind (Some j) e = absurd cc

    by : (numbered_in cells c ≡ None → with_texts (insert (insert m a t) c u) (zip cells texts) ≡ insert (with_texts (insert m a t) (zip cells texts)) c u) → (b : Bool) → is_same_cell c a ≡ b
        → with_texts (insert (insert m c u) a t) (zip cells texts) ≡ insert (with_texts (insert m a t) (zip cells texts)) c u
    by others true same = let first : ◌≡◌ {A = Option ℕ} (Some 0) None = sym (position_first (is_same_cell c) a cells same) ∙ none in cc
    by others false other =
        ap (λ n. with_texts n (zip cells texts)) (put_either m c a u t other)
        ∙ others (behind (position (is_same_cell c) cells) (sym (position_next (is_same_cell c) a cells other) ∙ none))

-- a text that is put into a cell after the numbers, or before them
pub given_either : (book : State) (cells : List Cell) (numbers : List ℚ) (c : Cell) (b : ℕ) (text : List ℕ) → numbered_in cells c ≡ None
    → after_set (with_numbers book cells numbers) c (b ∷ text) ≡ with_numbers (after_set book c (b ∷ text)) cells numbers
given_either book cells numbers c b text none =
    ap (λ (m : Contents). record { sheets = book.sheets; contents = m; names = book.names }) (sym (all_either cells (map number_text numbers) book.contents c (b ∷ text) none))
