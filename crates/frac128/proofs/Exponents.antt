-- The exponent and the percent mark in front of a text.
use Rattle.std.proofs.Common.{◌≡◌, ℕ, Bool, true, false, cond, not, ◌&&◌, ◌||◌, nat_lt, nat_eq, List, [], ◌∷◌, ◌++◌, length, refl, sym, ap, ap₂, subst, ◌∙◌, append_assoc, ◌⊎◌, inl, inr, ℤ, pos}
use Rattle.std.proofs.lemmas.Bool.{eqb-true, lt-ltb, or_cases}
use Rattle.std.specs.Char.{is_ascii_digit}
use Rattle.std.specs.Str.Parse.{IsNumeral, digits_value}
use Rattle.frac128.specs.Signed.{signed}
use Rattle.frac128.specs.Numeral.{SpellsSign, SpellsExponent, SpellsPercent, absent, present, plain, percent}
use Rattle.frac128.specs.NumeralReading.{front_digits, past_digits, front_minus, past_sign, exponent_minus, exponent_digits, past_exponent, whole_exponent, ends}
use Rattle.frac128.proofs.FrontDigits.{NotFirst, front-append, front-is-digits, front-past, past-append, some}
use Rattle.frac128.proofs.Signs.{digits-no-sign, left-false, right-false, sign-found, sign-front}
use Rattle.frac128.proofs.Mantissas.{is_digit_or_point}

pub record ExponentFound (text rest : List ℕ) (e : ℤ) : Type 0 where
  pub exponent : List ℕ
  pub joined : text ≡ exponent ++ rest
  pub spelled : SpellsExponent exponent e

marked : (b : ℕ) (bytes : List ℕ) → (b ≡ 101) ⊎ (b ≡ 69) → nat_lt 0 (length (front_digits (past_sign bytes))) ≡ true
    → ExponentFound (b ∷ bytes) (past_digits (past_sign bytes)) (signed (front_minus bytes) (digits_value 10 (front_digits (past_sign bytes))))
marked b bytes m e =
    let s = sign-found bytes in
    let ds = front_digits (past_sign bytes) in
    record {
      exponent = b ∷ (s.sign ++ ds);
      joined = ap (λ r. b ∷ r) (s.joined ∙ ap (λ r. s.sign ++ r) (front-past (past_sign bytes)) ∙ sym (append_assoc s.sign ds (past_digits (past_sign bytes))));
      spelled = present b s.sign ds (front_minus bytes) m s.spelled (some ds e, front-is-digits (past_sign bytes));
    }

pub exponent-found : (text : List ℕ) → whole_exponent text ≡ true → ExponentFound text (past_exponent text) (signed (exponent_minus text) (digits_value 10 (exponent_digits text)))
exponent-found [] e = record { exponent = []; joined = refl; spelled = absent }
exponent-found (b ∷ bytes) e = by_test (nat_eq b 101 || nat_eq b 69) (λ t. is_mark (or_cases (nat_eq b 101) (nat_eq b 69) t)) e
  where
    is_mark : (nat_eq b 101 ≡ true) ⊎ (nat_eq b 69 ≡ true) → (b ≡ 101) ⊎ (b ≡ 69)
    is_mark (inl e) = inl (eqb-true b 101 e)
    is_mark (inr e) = inr (eqb-true b 69 e)

    by_test : (t : Bool) → (t ≡ true → (b ≡ 101) ⊎ (b ≡ 69)) → (not t || nat_lt 0 (length (cond t (front_digits (past_sign bytes)) []))) ≡ true
        → ExponentFound (b ∷ bytes) (cond t (past_digits (past_sign bytes)) (b ∷ bytes)) (signed (t && front_minus bytes) (digits_value 10 (cond t (front_digits (past_sign bytes)) [])))
    by_test true k e = marked b bytes (k refl) e
    by_test false k e = record { exponent = []; joined = refl; spelled = absent }

abbrev pub is_mark : ℕ → Bool
is_mark b = nat_eq b 101 || nat_eq b 69

abbrev pub is_digit_or_mark : ℕ → Bool
is_digit_or_mark b = is_ascii_digit b || is_mark b

pub record ExponentRead (text rest : List ℕ) (e : ℤ) : Type 0 where
  pub exponent_is : signed (exponent_minus text) (digits_value 10 (exponent_digits text)) ≡ e
  pub rest_is : past_exponent text ≡ rest
  pub complete : whole_exponent text ≡ true
  pub past_mantissa : NotFirst is_digit_or_point text

exponent-none : (rest : List ℕ) → NotFirst is_digit_or_mark rest → NotFirst is_digit_or_point rest → ExponentRead rest rest (pos 0)
exponent-none [] n m = record { exponent_is = refl; rest_is = refl; complete = refl; past_mantissa = tt }
exponent-none (b ∷ bytes) n m =
    let e : is_mark b ≡ false = right-false (is_ascii_digit b) (is_mark b) n in
    record {
      exponent_is = ap (λ t. signed (t && front_minus bytes) (digits_value 10 (cond t (front_digits (past_sign bytes)) []))) e;
      rest_is = ap (λ t. cond t (past_digits (past_sign bytes)) (b ∷ bytes)) e;
      complete = ap (λ t. not t || nat_lt 0 (length (cond t (front_digits (past_sign bytes)) []))) e;
      past_mantissa = m;
    }

not-digit-2 : (rest : List ℕ) → NotFirst is_digit_or_mark rest → NotFirst is_ascii_digit rest
not-digit-2 [] n = tt
not-digit-2 (b ∷ bytes) n = left-false (is_ascii_digit b) (is_mark b) n

mark-read : (b : ℕ) (sign ds rest : List ℕ) (s : Bool) → is_mark b ≡ true → is_digit_or_point b ≡ false → SpellsSign sign s → IsNumeral 10 ds → NotFirst is_digit_or_mark rest
    → ExponentRead (b ∷ ((sign ++ ds) ++ rest)) rest (signed s (digits_value 10 ds))
mark-read b sign ds rest s m p h k n =
    let shape : (sign ++ ds) ++ rest ≡ sign ++ (ds ++ rest) = append_assoc sign ds rest in
    let front = sign-front (ds ++ rest) (digits-no-sign ds rest k) sign s h in
    let minus_is : front_minus ((sign ++ ds) ++ rest) ≡ s = ap front_minus shape ∙ front.0 in
    let past : past_sign ((sign ++ ds) ++ rest) ≡ ds ++ rest = ap past_sign shape ∙ front.1 in
    let digits_are : front_digits (past_sign ((sign ++ ds) ++ rest)) ≡ ds = ap front_digits past ∙ front-append ds rest k.1 (not-digit-2 rest n) in
    let rest_are : past_digits (past_sign ((sign ++ ds) ++ rest)) ≡ rest = ap past_digits past ∙ past-append ds rest k.1 (not-digit-2 rest n) in
    let bytes = (sign ++ ds) ++ rest in
    record {
      exponent_is = ap (λ t. signed (t && front_minus bytes) (digits_value 10 (cond t (front_digits (past_sign bytes)) []))) m ∙ ap₂ (λ t u. signed t (digits_value 10 u)) minus_is digits_are;
      rest_is = ap (λ t. cond t (past_digits (past_sign bytes)) (b ∷ bytes)) m ∙ rest_are;
      complete = ap (λ t. not t || nat_lt 0 (length (cond t (front_digits (past_sign bytes)) []))) m ∙ ap (λ u. nat_lt 0 (length u)) digits_are ∙ lt-ltb 0 (length ds) k.0;
      past_mantissa = p;
    }

pub exponent-read : (rest : List ℕ) → NotFirst is_digit_or_mark rest → NotFirst is_digit_or_point rest → (e : List ℕ) (x : ℤ) → SpellsExponent e x → ExponentRead (e ++ rest) rest x
exponent-read rest n p _ _ absent = exponent-none rest n p
exponent-read rest n p _ _ (present b sign ds s m h k) = mark-read b sign ds rest s (marks m) (apart m) h k n
  where
    marks : (b ≡ 101) ⊎ (b ≡ 69) → is_mark b ≡ true
    marks (inl e) = ap is_mark e
    marks (inr e) = ap is_mark e

    apart : (b ≡ 101) ⊎ (b ≡ 69) → is_digit_or_point b ≡ false
    apart (inl e) = ap is_digit_or_point e
    apart (inr e) = ap is_digit_or_point e

pub percent-found : (text : List ℕ) → ends text ≡ true → SpellsPercent text (nat_lt 0 (length text))
percent-found [] e = plain
percent-found (b ∷ []) e = subst (λ c. SpellsPercent (c ∷ []) true) (sym (eqb-true b 37 e)) percent
percent-found (b ∷ c ∷ bytes) e = cc

pub record PercentRead (text : List ℕ) (p : Bool) : Type 0 where
  pub percent_is : nat_lt 0 (length text) ≡ p
  pub complete : ends text ≡ true
  pub past_mantissa : NotFirst is_digit_or_point text
  pub past_exponent : NotFirst is_digit_or_mark text

pub percent-read : (text : List ℕ) (p : Bool) → SpellsPercent text p → PercentRead text p
percent-read _ _ plain = record { percent_is = refl; complete = refl; past_mantissa = tt; past_exponent = tt }
percent-read _ _ percent = record { percent_is = refl; complete = refl; past_mantissa = refl; past_exponent = refl }
