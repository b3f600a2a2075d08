-- Workbooks with numbers written into cells.
use Rattle.std.proofs.Common.{[], ◌∙◌, ◌≡◌, ℕ, ◌<◌, Bool, true, false, cond, if◌then◌else◌, All, List, ◌∷◌, length, map, Option, Some, None, Result, Ok, Err, refl, sym, ap, subst, arith}
use Rattle.std.specs.Prelude.{OnOk, option_map, position, zip}
use Rattle.std.proofs.lemmas.Bool.{ltb-true}
use Rattle.fractions.specs.Rational.{ℚ, zero_ℚ}
use Rattle.frac128.specs.Narrow.{IsNarrow}
use Rattle.calculations.specs.Calculation.{exact}
use Rattle.cell_refs.specs.declared.cell.Cell.{Cell}
use Rattle.cell_refs.specs.declared.error_kind.ErrorKind.TheVariants as kind
use Rattle.cell_refs.specs.Cells.{is_same_cell}
use Rattle.sheet_model.specs.declared.value.Value.TheVariants.{Error}
use Rattle.recalculation.specs.Entries.{Formula, entry}
use Rattle.recalculation.specs.Evaluation.{cell_value, evaluated}
use Rattle.affine_forms.specs.Assigned.{assigned}
use Rattle.form_extraction.specs.Places.{numbered_in, overriding}
use Rattle.written_cells.specs.Written.{IsWritten, Says}
use Rattle.written_cells.proofs.Writing.{circle_after, written_is_overridden}
use Rattle.workbook.specs.declared.fault.AllFault.{AllFault}
use Rattle.workbook.specs.declared.fault.AllFault.TheVariants as fault
use Rattle.workbook.specs.Kinds.{book_of, says}
use Rattle.workbook.specs.Several.{IsField, SetsAll}
use Rattle.workbook.specs.State.{State}
use Rattle.write_back.specs.Writing.{AreDistinct, KeepsSides, KeepsValues, Puts, number_text, with_numbers}
use Rattle.write_back.proofs.Contents.{number_there, others_keep}
use Rattle.write_back.proofs.Lengths.{IsShort, printed_short}
use Rattle.write_back.proofs.Saying.{number_says}

-- ---- numbers by their places
position_below : {A : Type 0} (p : A → Bool) (xs : List A) (j : ℕ) → position p xs ≡ Some j → j < length xs
position_below p xs j e = by _ _ _ (ltb-true _ _) e
  where
    by : (t : Bool) (q n : ℕ) → (t ≡ true → q < n) → cond t (Some q) None ≡ Some j → j < n
    by true q n h e = let same : q ≡ j = cc in let lt = h refl in omega arith
    by false q n h e = absurd cc

by_place : (numbers : List ℚ) (x : ℚ) → All IsNarrow numbers → (o : Option ℕ) → ((j : ℕ) → o ≡ Some j → j < length numbers) → option_map (assigned numbers) o ≡ Some x → IsNarrow x
by_place numbers x narrow None below e = absurd cc
by_place numbers x narrow (Some j) below e = let same : assigned numbers j ≡ x = cc in subst IsNarrow same (narrow j zero_ℚ (below j refl))

no_place : {A B : Type 0} (f : A → B) (o : Option A) → option_map f o ≡ None → o ≡ None
no_place f None e = refl
no_place f (Some j) e = absurd cc

-- ---- workbooks
module _ (s : State) (cells : List Cell) (numbers : List ℚ) (long : length numbers ≡ length cells) (distinct : AreDistinct cells) (narrow : All IsNarrow numbers) where
  abbrev after : State
  after = with_numbers s cells numbers

  is_narrow : (c : Cell) (x : ℚ) → overriding (numbered_in cells) (assigned numbers) c ≡ Some x → IsNarrow x
  is_narrow c x e = by_place numbers x narrow (position (is_same_cell c) cells) (λ j at. let lt = position_below (is_same_cell c) cells j at in omega arith) e

  written : (c : Cell) (x : ℚ) → overriding (numbered_in cells) (assigned numbers) c ≡ Some x → Says (entry (book_of after) c) x
  written c x e =
      subst (λ o. Says o x) (sym (ap (option_map (says s.sheets s.names c)) (number_there number_text cells numbers s.contents c x long distinct e)))
      (number_says s.sheets s.names c x (is_narrow c x e))

  others : (c : Cell) → overriding (numbered_in cells) (assigned numbers) c ≡ None → entry (book_of after) c ≡ entry (book_of s) c
  others c e = ap (option_map (says s.sheets s.names c)) (others_keep cells (map number_text numbers) s.contents c (no_place (assigned numbers) (position (is_same_cell c) cells) e))

  pub is_written : IsWritten (book_of s) (overriding (numbered_in cells) (assigned numbers)) (book_of after)
  is_written = record { written = written; others = others }

  -- every cell is then what it was with the numbers in the place of these cells
  pub keeps_values : KeepsValues (book_of s) cells numbers (book_of after)
  keeps_values = written_is_overridden (book_of s) (overriding (numbered_in cells) (assigned numbers)) (book_of after) is_written

  -- so is every formula that stands in no cell
  pub keeps_sides : KeepsSides (book_of s) cells numbers (book_of after)
  keeps_sides t = λ i.
      if circle_after (book_of s) (overriding (numbered_in cells) (assigned numbers)) (book_of after) is_written (Some (Formula t)) i
      then Error kind.Circular else cell_value (exact (evaluated (λ c. keeps_values c i) t))

-- ---- putting
no_texts : (cells : List Cell) → zip cells (map number_text []) ≡ []
no_texts [] = refl
no_texts (c ∷ cells) = refl

-- what putting the texts of numbers answers
pub puts : (s t : State) (cells : List Cell) (numbers : List ℚ) (texts : List (List ℕ)) (r : Result (Unit {0}) AllFault) → texts ≡ map number_text numbers
    → SetsAll s (zip cells texts) r t → Puts s cells numbers r t
puts s t cells numbers texts r e all = by r (subst (λ ts. SetsAll s (zip cells ts) r t) e all)
  where
    by : (r : Result (Unit {0}) AllFault) → SetsAll s (zip cells (map number_text numbers)) r t → Puts s cells numbers r t
    by (Ok _) all = all
    by (Err (fault.NoRoom cell)) all = all
    by (Err fault.Memory) all = (λ none. all.1 (ap (λ ns. zip cells (map number_text ns)) none ∙ no_texts cells), all.2)

pub recalculated : (s t : State) (cells : List Cell) (numbers : List ℚ) → length numbers ≡ length cells → AreDistinct cells → All IsNarrow numbers → (r : Result (Unit {0}) AllFault) → Puts s cells numbers r t
    → OnOk r (KeepsValues (book_of s) cells numbers (book_of t))
recalculated s t cells numbers long distinct narrow (Ok _) p = subst (λ (u : State). KeepsValues (book_of s) cells numbers (book_of u)) (sym p.1) (keeps_values s cells numbers long distinct narrow)
recalculated s t cells numbers long distinct narrow (Err f) p = tt

pub sides : (s t : State) (cells : List Cell) (numbers : List ℚ) → length numbers ≡ length cells → AreDistinct cells → All IsNarrow numbers → (r : Result (Unit {0}) AllFault) → Puts s cells numbers r t
    → OnOk r (KeepsSides (book_of s) cells numbers (book_of t))
sides s t cells numbers long distinct narrow (Ok _) p = subst (λ (u : State). KeepsSides (book_of s) cells numbers (book_of u)) (sym p.1) (keeps_sides s cells numbers long distinct narrow)
sides s t cells numbers long distinct narrow (Err f) p = tt

-- ---- fields
field_by : (t : Bool) (text : List ℕ) → IsShort 82 text → IsField (cond t (61 ∷ text) text)
field_by true text h = record { some = λ e. absurd cc; short = let m = h.most in omega arith }
field_by false text h = record { some = λ e. let z = h.some in let k = ap length e in omega arith; short = let m = h.most in omega arith }

-- a cell can have the text of a narrow number
pub number_field : (x : ℚ) → IsNarrow x → IsField (number_text x)
number_field x h = field_by _ _ (printed_short x h)
