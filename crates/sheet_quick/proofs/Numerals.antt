-- What the text of a numeral says in a cell.
use Rattle.std.proofs.Common.{◌≡◌, ℕ, Bool, true, false, List, [], ◌∷◌, length, Option, Some, None, refl, ap, ◌∙◌, nat_lt}
use Rattle.std.specs.Prelude.{◌==◌, ◌&&◌, if◌then◌else◌, slice_index}
use Rattle.std.specs.Option.{option_and_then, option_map_or}
use Rattle.fractions.specs.Rational.{ℚ}
use Rattle.frac128.specs.Numeral.{Numeral}
use Rattle.frac128.specs.NumeralReading.{reading}
use Rattle.frac128.proofs.Spelling.{reading-sound}
use Rattle.cell_refs.specs.declared.cell.Cell.{Cell}
use Rattle.cell_refs.specs.declared.limits.TheConstants.{TEXT_BYTES}
use Rattle.sheet_funcs.specs.Numerals.{narrow_value, number_spelled}
use Rattle.sheet_model.specs.declared.value.Value.TheVariants as value
use Rattle.recalculation.specs.Entries.{Constant, Formula, Malformed}
use Rattle.workbook.specs.Kinds.{formula_tree, number_or_other, says}
use Rattle.workbook.specs.State.{Name, is_formula_text}
use Rattle.write_back.proofs.Bytes.{AllPlain, plain_numeral}
use Rattle.sheet_quick.specs.Giving.{number_given}

-- plain bytes begin no formula
no_formula : (bytes : List ℕ) → AllPlain bytes → is_formula_text bytes ≡ false
no_formula [] h = refl
no_formula (b ∷ bytes) h =
    ap (λ t. if t then true else (b == 111) && ((slice_index (b ∷ bytes) 1 == 102) && ((slice_index (b ∷ bytes) 2 == 58) && (slice_index (b ∷ bytes) 3 == 61)))) h.0.equals
    ∙ ap (λ t. t && ((slice_index (b ∷ bytes) 1 == 102) && ((slice_index (b ∷ bytes) 2 == 58) && (slice_index (b ∷ bytes) 3 == 61)))) h.0.letter

-- a text that is a number says it
module _ (sheets : List (List ℕ)) (names : List Name) (cell : Cell) (text : List ℕ) (x : ℚ) where
  by_reading : (r : Option Numeral) → reading text ≡ r → option_and_then narrow_value r ≡ Some x → says sheets names cell text ≡ Constant (value.Number x)
  by_reading None e h = cc
  by_reading (Some n) e h =
      ap (λ t. if t then option_map_or Formula (formula_tree sheets names cell.sheet.0 text) Malformed else number_or_other text (reading text))
      (no_formula text (plain_numeral text n (reading-sound text n e)))
      ∙ ap (number_or_other text) e ∙ ap (λ o. option_map_or (λ (x : ℚ). Constant (value.Number x)) o Malformed) h

  pub spelled_says : number_spelled text ≡ Some x → says sheets names cell text ≡ Constant (value.Number x)
  spelled_says h = by_reading (reading text) refl h

-- what is given is a text with a first byte, and a number
pub given_spelled : (text : List ℕ) (x : ℚ) → number_given text ≡ Some x → number_spelled text ≡ Some x
given_spelled [] x h = cc
given_spelled (b ∷ text) x h = by (nat_lt TEXT_BYTES (length (b ∷ text))) h
  where
    by : (t : Bool) → (if t then None else number_spelled (b ∷ text)) ≡ Some x → number_spelled (b ∷ text) ≡ Some x
    by true h = cc
    by false h = h
