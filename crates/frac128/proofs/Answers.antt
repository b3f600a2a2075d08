-- What the reading of a text answers.
use Rattle.std.proofs.Common.{◌≡◌, ℕ, List, Some, None, Result, Ok, Err, refl, sym, ap, subst, ◌∙◌, ◌↔◌}
use Rattle.std.specs.Prelude.{IfOk}
use Rattle.fractions.specs.Rational.{ℚ}
use Rattle.frac128.specs.declared.numeral_fault.NumeralFault.{NumeralFault}
use Rattle.frac128.specs.declared.numeral_fault.NumeralFault.TheVariants.{NotNumeral, TooWide}
use Rattle.frac128.specs.Numeral.{Numeral, Spells, IsNarrowNumeral, value}
use Rattle.frac128.specs.NumeralReading.{reading}
use Rattle.frac128.proofs.Spelling.{reading-sound, reading-complete, spells_one}

-- the answer is the text's number, or why it has none
pub record Answers (text : List ℕ) (r : Result ℚ NumeralFault) : Type 0 where
  pub ok : IfOk r (λ f. (n : Numeral) × (Spells text n × IsNarrowNumeral n × (f ≡ value n)))
  pub read : (n : Numeral) → Spells text n → IsNarrowNumeral n → r ≡ Ok (value n)
  pub not_numeral : (r ≡ Err NotNumeral) ↔ ((n : Numeral) → ¬ (Spells text n))
  pub too_wide : (r ≡ Err TooWide) ↔ ((n : Numeral) × (Spells text n × ¬ (IsNarrowNumeral n)))

pub none-spelled : (text : List ℕ) → reading text ≡ None → (n : Numeral) → ¬ (Spells text n)
none-spelled text e n h = differ n (sym e ∙ reading-complete text n h)
  where
    differ : (n : Numeral) → None ≡ Some n → ⊥
    differ n e = cc

pub no-numeral : (text : List ℕ) → reading text ≡ None → Answers text (Err NotNumeral)
no-numeral text e =
    let none = none-spelled text e in
    record {
      ok = tt;
      read = λ n h k. absurd (none n h);
      not_numeral = (λ same. none, λ h. refl);
      too_wide = (λ same. absurd (apart same), λ h. absurd (none h.0 h.1.0));
    }
  where
    apart : ◌≡◌ {A = Result ℚ NumeralFault} (Err NotNumeral) (Err TooWide) → ⊥
    apart e = cc

pub narrow-numeral : (text : List ℕ) (n : Numeral) (f : ℚ) → reading text ≡ Some n → IsNarrowNumeral n → f ≡ value n → Answers text (Ok f)
narrow-numeral text n f e h k =
    let s = reading-sound text n e in
    record {
      ok = (n, (s, h, k));
      read = λ m t w. ap Ok (k ∙ ap value (spells_one text n m s t));
      not_numeral = (λ same. absurd (apart same), λ none. absurd (none n s));
      too_wide = (λ same. absurd (apart same), λ w. absurd (w.1.1 (subst IsNarrowNumeral (spells_one text n w.0 s w.1.0) h)));
    }
  where
    apart : {x : NumeralFault} → ◌≡◌ {A = Result ℚ NumeralFault} (Ok f) (Err x) → ⊥
    apart e = cc

pub wide-numeral : (text : List ℕ) (n : Numeral) → reading text ≡ Some n → ¬ (IsNarrowNumeral n) → Answers text (Err TooWide)
wide-numeral text n e h =
    let s = reading-sound text n e in
    record {
      ok = tt;
      read = λ m t w. absurd (h (subst IsNarrowNumeral (sym (spells_one text n m s t)) w));
      not_numeral = (λ same. absurd (apart same), λ none. absurd (none n s));
      too_wide = (λ same. (n, (s, h)), λ w. refl);
    }
  where
    apart : ◌≡◌ {A = Result ℚ NumeralFault} (Err TooWide) (Err NotNumeral) → ⊥
    apart e = cc
