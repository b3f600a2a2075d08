-- The mantissa in front of a text.
use Rattle.std.proofs.Common.{◌≡◌, ℕ, ◌<◌, Bool, true, false, cond, ◌||◌, nat_lt, nat_eq, List, [], ◌∷◌, ◌++◌, length, refl, sym, ap, subst, ◌∙◌, arith, append_assoc}
use Rattle.std.proofs.lemmas.Bool.{eqb-true, lt-ltb}
use Rattle.std.specs.Char.{is_ascii_digit}
use Rattle.std.specs.Str.Parse.{AllDigits}
use Rattle.frac128.specs.Numeral.{SpellsMantissa, digits, pointed, point_first}
use Rattle.frac128.specs.NumeralReading.{front_digits, past_digits, front_fraction, past_fraction}
use Rattle.frac128.proofs.FrontDigits.{NotFirst, front-append, front-is-digits, front-past, past-append, some}
use Rattle.frac128.proofs.Signs.{digits-no-sign, is_sign, left-false, left-true, right-false}

pub record MantissaFound (text rest before behind : List ℕ) : Type 0 where
  pub mantissa : List ℕ
  pub joined : text ≡ mantissa ++ rest
  pub spelled : SpellsMantissa mantissa before behind

past-point : (bytes ds : List ℕ) → AllDigits 10 ds → (nat_lt 0 (length ds) || nat_lt 0 (length (front_digits bytes))) ≡ true → MantissaFound (ds ++ (46 ∷ bytes)) (past_digits bytes) ds (front_digits bytes)
past-point bytes [] h e = record {
  mantissa = 46 ∷ front_digits bytes;
  joined = ap (λ r. 46 ∷ r) (front-past bytes);
  spelled = point_first (front_digits bytes) (some (front_digits bytes) e, front-is-digits bytes);
}
past-point bytes (d ∷ ds) h e = record {
  mantissa = (d ∷ ds) ++ (46 ∷ front_digits bytes);
  joined = ap (λ r. (d ∷ ds) ++ (46 ∷ r)) (front-past bytes) ∙ sym (append_assoc (d ∷ ds) (46 ∷ front_digits bytes) (past_digits bytes));
  spelled = pointed (d ∷ ds) (front_digits bytes) (omega arith, h) (front-is-digits bytes);
}

pub mantissa-found : (before rest : List ℕ) → AllDigits 10 before → (nat_lt 0 (length before) || nat_lt 0 (length (front_fraction rest))) ≡ true → MantissaFound (before ++ rest) (past_fraction rest) before (front_fraction rest)
mantissa-found before [] h e = record { mantissa = before; joined = refl; spelled = digits before (some before (left-true _ e), h) }
mantissa-found before (b ∷ bytes) h e = by_test (nat_eq b 46) (eqb-true b 46) e
  where
    by_test : (t : Bool) → (t ≡ true → b ≡ 46) → (nat_lt 0 (length before) || nat_lt 0 (length (cond t (front_digits bytes) []))) ≡ true
        → MantissaFound (before ++ (b ∷ bytes)) (cond t (past_digits bytes) (b ∷ bytes)) before (cond t (front_digits bytes) [])
    by_test true k e = subst (λ c. MantissaFound (before ++ (c ∷ bytes)) (past_digits bytes) before (front_digits bytes)) (sym (k refl)) (past-point bytes before h e)
    by_test false k e = record { mantissa = before; joined = refl; spelled = digits before (some before (left-true _ e), h) }

abbrev pub is_digit_or_point : ℕ → Bool
is_digit_or_point b = is_ascii_digit b || nat_eq b 46

not-digit : (rest : List ℕ) → NotFirst is_digit_or_point rest → NotFirst is_ascii_digit rest
not-digit [] n = tt
not-digit (b ∷ bytes) n = left-false (is_ascii_digit b) (nat_eq b 46) n

no-fraction : (rest : List ℕ) → NotFirst is_digit_or_point rest → (front_fraction rest ≡ []) × (past_fraction rest ≡ rest)
no-fraction [] n = (refl, refl)
no-fraction (b ∷ bytes) n =
    let e : nat_eq b 46 ≡ false = right-false (is_ascii_digit b) (nat_eq b 46) n in
    (ap (λ t. cond t (front_digits bytes) []) e, ap (λ t. cond t (past_digits bytes) (b ∷ bytes)) e)

-- what is read of a mantissa and the rest behind it
pub record MantissaRead (text rest before behind : List ℕ) : Type 0 where
  pub before_is : front_digits text ≡ before
  pub behind_is : front_fraction (past_digits text) ≡ behind
  pub rest_is : past_fraction (past_digits text) ≡ rest
  pub some_digit : (nat_lt 0 (length before) || nat_lt 0 (length behind)) ≡ true
  pub unsigned : NotFirst is_sign text

some-test : (ds : List ℕ) (t : Bool) → 0 < length ds → (nat_lt 0 (length ds) || t) ≡ true
some-test ds t h = ap (λ s. s || t) (lt-ltb 0 (length ds) h)

pub mantissa-read : (rest : List ℕ) → NotFirst is_digit_or_point rest → (m before behind : List ℕ) → SpellsMantissa m before behind → MantissaRead (m ++ rest) rest before behind
mantissa-read rest n _ _ _ (digits ds h) =
    let past : past_digits (ds ++ rest) ≡ rest = past-append ds rest h.1 (not-digit rest n) in
    record {
      before_is = front-append ds rest h.1 (not-digit rest n);
      behind_is = ap front_fraction past ∙ (no-fraction rest n).0;
      rest_is = ap past_fraction past ∙ (no-fraction rest n).1;
      some_digit = some-test ds (nat_lt 0 0) h.0;
      unsigned = digits-no-sign ds rest h;
    }
mantissa-read rest n _ _ _ (pointed ds es h k) =
    let shape : (ds ++ (46 ∷ es)) ++ rest ≡ ds ++ (46 ∷ (es ++ rest)) = append_assoc ds (46 ∷ es) rest in
    let past : past_digits ((ds ++ (46 ∷ es)) ++ rest) ≡ 46 ∷ (es ++ rest) = ap past_digits shape ∙ past-append ds (46 ∷ (es ++ rest)) h.1 refl in
    record {
      before_is = ap front_digits shape ∙ front-append ds (46 ∷ (es ++ rest)) h.1 refl;
      behind_is = ap front_fraction past ∙ front-append es rest k (not-digit rest n);
      rest_is = ap past_fraction past ∙ past-append es rest k (not-digit rest n);
      some_digit = some-test ds (nat_lt 0 (length es)) h.0;
      unsigned = subst (NotFirst is_sign) (sym shape) (digits-no-sign ds (46 ∷ (es ++ rest)) h);
    }
mantissa-read rest n _ _ _ (point_first es h) =
    let past : past_digits (46 ∷ (es ++ rest)) ≡ 46 ∷ (es ++ rest) = past-append [] (46 ∷ (es ++ rest)) tt refl in
    record {
      before_is = front-append [] (46 ∷ (es ++ rest)) tt refl;
      behind_is = ap front_fraction past ∙ front-append es rest h.1 (not-digit rest n);
      rest_is = ap past_fraction past ∙ past-append es rest h.1 (not-digit rest n);
      some_digit = lt-ltb 0 (length es) h.0;
      unsigned = refl;
    }
