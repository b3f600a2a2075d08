-- What leaves a quick model open.
use Rattle.std.proofs.Common.{◌≡◌, ◌<◌, ℕ, zero, suc, true, false, List, [], ◌∷◌, length, map, Some, None, refl, sym, ap, subst, ◌∙◌, arith, inl}
use Rattle.std.specs.Prelude.{option_map, slice_get, slice_set}
use Rattle.fractions.specs.Rational.{ℚ}
use Rattle.cell_refs.specs.Cells.{is_same_cell}
use Rattle.cell_refs.specs.declared.cell.Cell.{Cell}
use Rattle.optimality.specs.Problem.{Assignment}
use Rattle.recalculation.specs.Entries.{entry}
use Rattle.affine_forms.specs.Assigned.{assigned}
use Rattle.workbook.specs.Edits.{after_set}
use Rattle.workbook.specs.Kinds.{book_of, says}
use Rattle.workbook.specs.State.{State}
use Rattle.form_extraction.specs.Places.{numbered_in}
use Rattle.written_cells.specs.Written.{Says}
use Rattle.write_back.specs.Writing.{number_text, with_numbers}
use Rattle.write_back.proofs.Contents.{others_keep}
use Rattle.parameter_problems.specs.Opened.{HoldsValues}
use Rattle.parameter_problems.specs.Steps.{IsGiven}
use Rattle.parameter_problems.proofs.Steps.{given_value_is_held}
use Rattle.sheet_quick.specs.Giving.{IsGivenTo, with_value}
use Rattle.sheet_quick.specs.Laws.{OpenOnceGiven, OpenOnceWritten}
use Rattle.sheet_quick.specs.Opened.{IsOpen, SheetQuick}
use Rattle.sheet_quick.proofs.Cells.{one_cell, own_number, same_cells, text_elsewhere, text_here}
use Rattle.sheet_quick.proofs.Numerals.{given_spelled, spelled_says}

-- ---- decision cells that are written
module _ (book : State) (q : SheetQuick) (numbers : Assignment) (h : IsOpen book q) where
  abbrev written : State
  written = with_numbers book q.statement.decisions numbers

  -- other cells say what they said
  others_say : (c : Cell) → numbered_in q.statement.decisions c ≡ None → entry (book_of written) c ≡ entry (book_of book) c
  others_say c none = ap (option_map (says book.sheets book.names c)) (others_keep q.statement.decisions (map number_text numbers) book.contents c none)

  still_held : HoldsValues (book_of h.first) q.statement.decisions q.parameters (assigned q.values) (book_of written)
  still_held = record {
    values = λ c k none number. subst (λ e. Says e (assigned q.values k)) (sym (others_say c none)) (h.holds.values c k none number);
    others = λ c none absent. others_say c none ∙ h.holds.others c none absent;
  }

  pub written_open : IsOpen written q
  written_open = record {
    first = h.first;
    sheets = h.sheets;
    names = h.names;
    forms = h.forms;
    parameters = record { few = h.parameters.few; listed = h.parameters.listed; distinct = h.parameters.distinct; others = h.parameters.others; each = h.parameters.each };
    holds = still_held;
  }

pub open_once_written : OpenOnceWritten
open_once_written book q numbers h = written_open book q numbers h

-- ---- a parameter that is given a number
-- the number at a place, and at another one
at_set : (xs : List ℚ) (k : ℕ) (x : ℚ) → k < length xs → assigned (slice_set xs k x) k ≡ x
at_set [] k x l = absurd (omega (arith, l))
at_set (y ∷ xs) zero x l = refl
at_set (y ∷ xs) (suc k) x l = at_set xs k x (omega (arith, l))

at_other : (xs : List ℚ) (k j : ℕ) (x : ℚ) → (j ≡ k → ⊥) → assigned (slice_set xs k x) j ≡ assigned xs j
at_other [] k j x n = refl
at_other (y ∷ xs) zero zero x n = absurd (n refl)
at_other (y ∷ xs) zero (suc j) x n = refl
at_other (y ∷ xs) (suc k) zero x n = refl
at_other (y ∷ xs) (suc k) (suc j) x n = at_other xs k j x (λ e. n (ap suc e))

pub set_length : (xs : List ℚ) (k : ℕ) (x : ℚ) → length (slice_set xs k x) ≡ length xs
set_length [] k x = refl
set_length (y ∷ xs) zero x = refl
set_length (y ∷ xs) (suc k) x = ap suc (set_length xs k x)

module _ (book : State) (q : SheetQuick) (cell : Cell) (text : List ℕ) (k : ℕ) (x : ℚ) (h : IsOpen book q) (given : IsGivenTo q cell text k x) where
  abbrev after : State
  after = after_set book cell text

  place : k < length q.values
  place = let below : k < length q.parameters = (own_number q.parameters cell k given.parameter).0 in omega (arith, below, h.parameters.each)

  says_it : (c : Cell) → is_same_cell cell c ≡ true → Says (entry (book_of after) c) x
  says_it c same =
      inl (ap (option_map (says book.sheets book.names c)) (text_here book.contents cell c text x given.number same)
      ∙ ap Some (spelled_says book.sheets book.names c text x (given_spelled text x given.number)))

  its_number : (c : Cell) → is_same_cell cell c ≡ true → numbered_in q.parameters c ≡ Some k
  its_number c same = subst (λ (d : Cell). numbered_in q.parameters d ≡ Some k) (one_cell cell c same) given.parameter

  -- a parameter with the number of this one is this one
  other_place : (c : Cell) (j : ℕ) → is_same_cell cell c ≡ false → numbered_in q.parameters c ≡ Some j → j ≡ k → ⊥
  other_place c j other number e =
      let mine = (own_number q.parameters cell k given.parameter).1 in
      let its = (own_number q.parameters c j number).1 in
      same_cells cell c (sym mine ∙ ap (slice_get q.parameters) (sym e) ∙ its) other

  is_given : IsGiven (book_of book) q.statement.decisions q.parameters (assigned q.values) cell (assigned (slice_set q.values k x)) (book_of after)
  is_given = record {
    one = λ c same none. let number = its_number c same in cc;
    given = λ c j same number.
        let is = its_number c same in
        let place_is : k ≡ j = cc in
        subst (Says (entry (book_of after) c)) (sym (at_set q.values k x place) ∙ ap (assigned (slice_set q.values k x)) place_is) (says_it c same);
    kept = λ c j other number. at_other q.values k j x (other_place c j other number);
    others = λ c none other. ap (option_map (says book.sheets book.names c)) (text_elsewhere book.contents cell c text other);
  }

  pub given_open : IsOpen after (with_value q k x)
  given_open = record {
    first = h.first;
    sheets = h.sheets;
    names = h.names;
    forms = record { listed = h.forms.listed; stated = h.forms.stated; forms = h.forms.forms; conditions = h.forms.conditions; count = h.forms.count };
    parameters = record {
      few = h.parameters.few;
      listed = h.parameters.listed;
      distinct = h.parameters.distinct;
      others = h.parameters.others;
      each = set_length q.values k x ∙ h.parameters.each;
    };
    holds = given_value_is_held (book_of h.first) (book_of book) (book_of after) q.statement.decisions q.parameters (assigned q.values) (assigned (slice_set q.values k x)) cell h.holds is_given;
  }

pub open_once_given : OpenOnceGiven
open_once_given book q cell text k x h given = given_open book q cell text k x h given
