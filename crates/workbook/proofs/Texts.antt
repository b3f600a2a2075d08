-- What plain texts say.
use Rattle.std.proofs.Common.{◌≡◌, ◌≢◌, ℕ, Bool, true, false, List, [], ◌∷◌, Option, Some, None, refl, sym, ap, ◌∙◌}
use Rattle.std.specs.Prelude.{◌==◌, if◌then◌else◌, codes}
use Rattle.std.specs.Option.{option_map_or}
use Rattle.std.proofs.lemmas.Bool.{eqb-true}
use Rattle.fractions.specs.Rational.{ℚ}
use Rattle.frac128.specs.Numeral.{Numeral, Spells, IsNarrowNumeral, value}
use Rattle.frac128.specs.NumeralReading.{reading}
use Rattle.frac128.proofs.NarrowNumerals.{narrow_passes, wide_fails}
use Rattle.frac128.proofs.Spelling.{reading-sound, reading-complete}
use Rattle.cell_refs.specs.Names.{same_letters}
use Rattle.formula_grammar.specs.Words.{logical_word}
use Rattle.sheet_funcs.specs.Numerals.{narrow_value}
use Rattle.sheet_model.specs.declared.value.Value.TheVariants as sheet_value
use Rattle.recalculation.specs.Entries.{Entry, Constant, Malformed}
use Rattle.workbook.specs.Kinds.{behind_equals, logical_or_text, number_or_other}

-- ---- numerals
narrow_has_value : (n : Numeral) → IsNarrowNumeral n → narrow_value n ≡ Some (value n)
narrow_has_value n h = ap (λ b. if b then Some (value n) else None) (narrow_passes n h)

wide_has_none : (n : Numeral) → (IsNarrowNumeral n → ⊥) → narrow_value n ≡ None
wide_has_none n h = ap (λ b. if b then Some (value n) else None) (wide_fails n h)

abbrev number_entry : Option ℚ → Entry
number_entry o = option_map_or (λ (x : ℚ). Constant (sheet_value.Number x)) o Malformed

pub says_number : (text : List ℕ) (x : ℚ) → (n : Numeral) × (Spells text n × IsNarrowNumeral n × (x ≡ value n)) → Constant (sheet_value.Number x) ≡ number_or_other text (reading text)
says_number text x (n, (spelled, narrow, is)) =
    sym (ap (number_or_other text) (reading-complete text n spelled) ∙ ap number_entry (narrow_has_value n narrow) ∙ ap (λ y. Constant (sheet_value.Number y)) (sym is))

pub says_wide : (text : List ℕ) → (n : Numeral) × (Spells text n × (IsNarrowNumeral n → ⊥)) → Malformed ≡ number_or_other text (reading text)
says_wide text (n, (spelled, wide)) =
    sym (ap (number_or_other text) (reading-complete text n spelled) ∙ ap number_entry (wide_has_none n wide))

-- another text is a logical or a plain one
pub says_other : (text : List ℕ) (o : Option Bool) → ((n : Numeral) → Spells text n → ⊥) → o ≡ logical_word text → logical_or_text text o ≡ number_or_other text (reading text)
says_other text o none is = by_case (reading text) refl
  where
    by_case : (r : Option Numeral) → reading text ≡ r → logical_or_text text o ≡ number_or_other text (reading text)
    by_case None e = ap (logical_or_text text) is ∙ sym (ap (number_or_other text) e)
    by_case (Some n) e = absurd (none n (reading-sound text n e))

-- ---- words
pub first_word : (text : List ℕ) → true ≡ same_letters text (codes "TRUE") → Some true ≡ logical_word text
first_word text e = ap (λ b. if b then Some true else if same_letters text (codes "FALSE") then Some false else None) e

pub second_word : (text : List ℕ) → false ≡ same_letters text (codes "TRUE") → true ≡ same_letters text (codes "FALSE") → Some false ≡ logical_word text
second_word text e f =
    ap (λ b. if b then Some false else None) f
    ∙ ap (λ b. if b then Some true else if same_letters text (codes "FALSE") then Some false else None) e

pub no_word : (text : List ℕ) → false ≡ same_letters text (codes "TRUE") → false ≡ same_letters text (codes "FALSE") → None ≡ logical_word text
no_word text e f =
    ap (λ b. if b then Some false else None) f
    ∙ ap (λ b. if b then Some true else if same_letters text (codes "FALSE") then Some false else None) e

-- ---- equals signs
other_byte : (c b : ℕ) (bytes : List ℕ) → ((rest : List ℕ) → (b ∷ bytes) ≢ c ∷ rest) → (b == c) ≡ false
other_byte c b bytes none = by_case (b == c) refl
  where
    by_case : (t : Bool) → (b == c) ≡ t → t ≡ false
    by_case false e = refl
    by_case true e = absurd (none bytes (ap (λ x. x ∷ bytes) (eqb-true b c e)))

pub no_equals : (text : List ℕ) → ((rest : List ℕ) → text ≢ 61 ∷ rest) → text ≡ behind_equals text
no_equals [] none = refl
no_equals (b ∷ bytes) none = rw (other_byte 61 b bytes none) refl
