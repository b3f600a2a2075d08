-- What the reading of a numeral says of its tree.
use Rattle.std.proofs.Common.{◌≡◌, ℕ, Bool, true, false, cond, List, Option, Some, None, refl, sym, ap, ◌∙◌}
use Rattle.std.specs.Option.{option_map}
use Rattle.fractions.specs.Rational.{ℚ, neg_ℚ}
use Rattle.cell_refs.specs.declared.span.Span.{Span}
use Rattle.frac128.specs.Numeral.{Numeral, Spells, IsNarrowNumeral, is_narrow_numeral, value}
use Rattle.frac128.specs.NumeralReading.{reading}
use Rattle.frac128.proofs.NarrowNumerals.{narrow_passes, wide_fails}
use Rattle.frac128.proofs.Spelling.{reading-sound, reading-complete}
use Rattle.formula_ast.specs.Tree.{Number, WideNumber}
use Rattle.formula_parser.specs.Leaves.{item_of, signed_number}

-- the item that a narrow number is
narrow_item : (is_negative : Bool) (at : Span) (n : Numeral) (b : Bool) → is_narrow_numeral n ≡ b → b ≡ true → item_of (signed_number is_negative at n) ≡ Some (Number at (cond is_negative (neg_ℚ (value n)) (value n)))
narrow_item false at n b e h = ap (λ c. item_of (cond c (Number at (value n)) (WideNumber at (value n)))) (e ∙ h)
narrow_item true at n b e h = ap (λ c. item_of (cond c (Number at (neg_ℚ (value n))) (WideNumber at (neg_ℚ (value n))))) (e ∙ h)

-- a number that is too wide is none
wide_item : (is_negative : Bool) (at : Span) (n : Numeral) → is_narrow_numeral n ≡ false → item_of (signed_number is_negative at n) ≡ None
wide_item false at n e = ap (λ c. item_of (cond c (Number at (value n)) (WideNumber at (value n)))) e
wide_item true at n e = ap (λ c. item_of (cond c (Number at (neg_ℚ (value n))) (WideNumber at (neg_ℚ (value n))))) e

module _ (is_negative : Bool) (at : Span) (bytes : List ℕ) where
  -- what a narrow numeral gives
  pub narrow_read : (x y : ℚ) → (n : Numeral) × (Spells bytes n × IsNarrowNumeral n × (x ≡ value n)) → y ≡ cond is_negative (neg_ℚ x) x
      → option_map (λ n. item_of (signed_number is_negative at n)) (reading bytes) ≡ Some (Some (Number at y))
  narrow_read x y (n, (spelled, narrow, is)) turned =
      ap (option_map (λ n. item_of (signed_number is_negative at n))) (reading-complete bytes n spelled)
      ∙ ap Some (narrow_item is_negative at n true (narrow_passes n narrow) refl ∙ ap (λ z. Some (Number at z)) (sym (turned ∙ ap (λ z. cond is_negative (neg_ℚ z) z) is)))

  -- what a numeral gives that is too wide
  pub wide_read : (n : Numeral) × (Spells bytes n × (IsNarrowNumeral n → ⊥)) → option_map (λ n. item_of (signed_number is_negative at n)) (reading bytes) ≡ Some None
  wide_read (n, (spelled, wide)) =
      ap (option_map (λ n. item_of (signed_number is_negative at n))) (reading-complete bytes n spelled)
      ∙ ap Some (wide_item is_negative at n (wide_fails n wide))

  -- what no numeral gives
  pub none_read : ((n : Numeral) → Spells bytes n → ⊥) → option_map (λ n. item_of (signed_number is_negative at n)) (reading bytes) ≡ None
  none_read none = by_case (reading bytes) refl
    where
      by_case : (o : Option Numeral) → reading bytes ≡ o → option_map (λ n. item_of (signed_number is_negative at n)) o ≡ None
      by_case None e = refl
      by_case (Some n) e = absurd (none n (reading-sound bytes n e))
