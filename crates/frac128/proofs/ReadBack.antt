-- What is printed without '/' is a narrow numeral of the same value.
use Rattle.std.proofs.Common.{◌≡◌, ◌≢◌, ℕ, ◌*◌, ◌/◌, ◌^◌, ◌<◌, Bool, true, false, cond, eqb, nat_lt, List, ◌++◌, Option, Some, None, refl, sym, ap, subst, inl, inr, ⊎_elim}
use Rattle.std.specs.Prelude.{unsigned_abs, IsSome}
use Rattle.std.proofs.lemmas.Bool.{cases_eq, eq-eqb, ne_eqb, ltb-true}
use Rattle.fractions.specs.Rational.{ℚ, numerator, denominator}
use Rattle.frac128.specs.declared.write.Decimal.{Decimal}
use Rattle.frac128.specs.Narrow.{IsNarrow}
use Rattle.frac128.specs.Numeral.{Numeral, Spells, IsNarrowNumeral, value}
use Rattle.frac128.specs.Printed.{least_places, decimal_with, short_decimal, fraction_text, minus_text, IsPrintedAsNumeral, PrintedReadsBack}
use Rattle.frac128.proofs.PrintedWhole.{ReadsBack, whole-back, whole-numeral}
use Rattle.frac128.proofs.Printing.{places-small}
use Rattle.frac128.proofs.PrintedDecimal.{decimal-back, decimal-numeral}

read_back : (x : ℚ) (text : List ℕ) (n : Numeral) → IsNarrow x → ReadsBack x text n → (n : Numeral) × (Spells text n × IsNarrowNumeral n × (value n ≡ x))
read_back x text n h r = (n, (r.spelled, record { value = subst IsNarrow (sym r.same) h; digits = r.narrow }, r.same))

sized : (d : ℕ) (a b : List ℕ) (s : List ℕ) → d ≡ 1 → s ++ a ≡ s ++ cond (eqb d 1) a b
sized d a b s e = ap (λ t. s ++ cond t a b) (sym (eq-eqb d 1 e))

broken : (d : ℕ) (a b : List ℕ) (s : List ℕ) → d ≢ 1 → s ++ b ≡ s ++ cond (eqb d 1) a b
broken d a b s e = ap (λ t. s ++ cond t a b) (sym (ne_eqb d 1 e))

abbrev Back : ℚ → List ℕ → Type 0
Back x text = (n : Numeral) × (Spells text n × IsNarrowNumeral n × (value n ≡ x))

abbrev decimal_of : ℕ → ℕ → Decimal
decimal_of m k = record { digits = m; places = k }

no_decimal : {P : Type 0} → IsSome {T = Decimal} None → P
no_decimal h = cc

chosen-back : (x : ℚ) → IsNarrow x → (o : Option ℕ) → least_places 19 0 (denominator x) ≡ o → IsSome (decimal_with (unsigned_abs (numerator x)) (denominator x) o)
    → Back x (minus_text (numerator x) ++ fraction_text (unsigned_abs (numerator x)) (denominator x) (decimal_with (unsigned_abs (numerator x)) (denominator x) o))
chosen-back x h None e s = no_decimal s
chosen-back x h (Some k) e s = by_test (nat_lt m (2 ^ 127)) (ltb-true m (2 ^ 127)) s
  where
    m : ℕ
    m = unsigned_abs (numerator x) * (10 ^ k / denominator x)

    by_test : (t : Bool) → (t ≡ true → m < 2 ^ 127) → IsSome (cond t (Some (decimal_of m k)) None)
        → Back x (minus_text (numerator x) ++ fraction_text (unsigned_abs (numerator x)) (denominator x) (cond t (Some (decimal_of m k)) None))
    by_test true b s = read_back x _ (decimal-numeral x m k) h (decimal-back x m k refl (b refl) (places-small 19 0 (denominator x) k e).2)
    by_test false b s = no_decimal s

pub printed_reads_back : PrintedReadsBack
printed_reads_back x h p =
    ⊎_elim
    (λ one. subst (Back x) (sized (denominator x) _ _ (minus_text (numerator x)) one) (read_back x _ (whole-numeral x) h (whole-back x h one)))
    (λ more. subst (Back x) (broken (denominator x) _ _ (minus_text (numerator x)) more) (in_decimals more p))
    (cases_eq (denominator x) 1)
  where
    in_decimals : denominator x ≢ 1 → IsPrintedAsNumeral x → Back x (minus_text (numerator x) ++ fraction_text (unsigned_abs (numerator x)) (denominator x) (short_decimal (unsigned_abs (numerator x)) (denominator x)))
    in_decimals more (inl one) = absurd (more one)
    in_decimals more (inr s) = chosen-back x h (least_places 19 0 (denominator x)) refl s
