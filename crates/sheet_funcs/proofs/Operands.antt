-- What a text stands for in a criterion.
use Rattle.std.proofs.Common.{◌≡◌, ◌<◌, ◌^◌, ℕ, Bool, true, false, refl, sym, ap, ◌∙◌, List, Option, Some, None, arith}
use Rattle.std.specs.Prelude.{if◌then◌else◌}
use Rattle.std.specs.Option.{option_and_then}
use Rattle.fractions.specs.Rational.{ℚ}
use Rattle.frac128.specs.Numeral.{Numeral, Spells, IsNarrowNumeral, value}
use Rattle.frac128.specs.NumeralReading.{reading}
use Rattle.frac128.proofs.NarrowNumerals.{narrow_passes, wide_fails}
use Rattle.frac128.proofs.Spelling.{reading-sound, reading-complete}
use Rattle.sheet_funcs.specs.Numerals.{narrow_value, number_spelled}

-- a narrow numeral has its value
narrow_has_value : (n : Numeral) → IsNarrowNumeral n → narrow_value n ≡ Some (value n)
narrow_has_value n h = ap (λ b. if b then Some (value n) else None) (narrow_passes n h)

-- another has none
wide_has_none : (n : Numeral) → (IsNarrowNumeral n → ⊥) → narrow_value n ≡ None
wide_has_none n h = ap (λ b. if b then Some (value n) else None) (wide_fails n h)

-- the number that was read
pub spelled_number : (text : List ℕ) (x : ℚ) → (n : Numeral) × (Spells text n × IsNarrowNumeral n × (x ≡ value n)) → number_spelled text ≡ Some x
spelled_number text x (n, (spelled, narrow, is)) =
    ap (option_and_then narrow_value) (reading-complete text n spelled) ∙ narrow_has_value n narrow ∙ ap Some (sym is)

-- no number where the text spells a narrow numeral nowhere
pub spelled_none : (text : List ℕ) → ((n : Numeral) → Spells text n → IsNarrowNumeral n → ⊥) → number_spelled text ≡ None
spelled_none text none = by_case (reading text) refl
  where
    by_case : (o : Option Numeral) → reading text ≡ o → number_spelled text ≡ None
    by_case None e = ap (option_and_then narrow_value) e
    by_case (Some n) e = ap (option_and_then narrow_value) e ∙ wide_has_none n (none n (reading-sound text n e))
