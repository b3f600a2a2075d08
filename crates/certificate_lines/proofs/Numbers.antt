-- Printed numbers: which bytes they have, and that no text is that of two.
use Rattle.std.proofs.Common.{◌≡◌, ◌≢◌, ◌∙◌, ℕ, suc, ◌-◌, ◌*◌, ◌/◌, ◌^◌, ◌<◌, ◌≤◌, Bool, true, false, cond, eqb, nat_lt, replicate, List, [], ◌∷◌, ◌++◌, length, take, drop, Option, Some, None, refl, sym, ap, ap₂, subst, append_assoc, arith, inl, inr, ⊎_elim, ℤ, pos, negsuc}
use Rattle.std.specs.Prelude.{unsigned_abs, is_some}
use Rattle.std.specs.List.{AllByRecursion}
use Rattle.std.specs.Fmt.{decimal}
use Rattle.std.specs.Str.Parse.{AllDigits, digits_value}
use Rattle.std.proofs.lemmas.Bool.{cases_eq, eq-eqb, ne_eqb, ltb-true}
use Rattle.std.proofs.lemmas.Fmt.{decimal_is_IsNumeral_wide}
use Rattle.std.proofs.lemmas.Str.Parse.{digit_from_value}
use Rattle.fractions.specs.Rational.{ℚ, frac, numerator, denominator}
use Rattle.fractions.specs.Whole.{whole_ℚ}
use Rattle.fractions.proofs.Parts.{frac_self}
use Rattle.fractions.proofs.Whole.{whole_numbers, whole_injective}
use Rattle.frac128.specs.declared.write.Decimal.{Decimal}
use Rattle.frac128.specs.Narrow.{IsNarrow, IsNarrowWhole}
use Rattle.frac128.specs.Numeral.{Spells, value}
use Rattle.frac128.specs.Printed.{least_places, decimal_with, short_decimal, with_point, fraction_text, minus_text, printed, IsPrintedAsNumeral}
use Rattle.frac128.proofs.Digits.{append-digits, take-digits, drop-digits, zeros-digits}
use Rattle.frac128.proofs.NarrowLaws.{narrow-whole}
use Rattle.frac128.proofs.PrintedWhole.{below-64}
use Rattle.frac128.proofs.ReadBack.{printed_reads_back}
use Rattle.frac128.proofs.Spelling.{spells_one}
use Rattle.certificate_lines.specs.Cutting.{Lacks}
use Rattle.certificate_lines.proofs.Cuts.{cut, all_map, all-append, all-back}

-- the bytes of numbers, '/' among them or not
abbrev pub NumberByte : ℕ → Type 0
NumberByte b = (45 ≤ b) × (b ≤ 57)

abbrev pub PlainByte : ℕ → Type 0
PlainByte b = (45 ≤ b) × (b ≤ 57) × (b ≢ 47)

plain_digits : (ds : List ℕ) → AllDigits 10 ds → AllByRecursion PlainByte ds
plain_digits [] h = tt
plain_digits (d ∷ ds) h = let r = digit_from_value d h.0 in ((omega (arith, r.0), omega (arith, r.1), omega (arith, r.0)), plain_digits ds h.1)

decimal-digits : (n : ℕ) → n < 2 ^ 127 → AllDigits 10 (decimal n)
decimal-digits n h = (decimal_is_IsNumeral_wide n (below-64 n h)).0.1

pub decimal-plain : (n : ℕ) → n < 2 ^ 127 → AllByRecursion PlainByte (decimal n)
decimal-plain n h = plain_digits (decimal n) (decimal-digits n h)

pub decimal_one : (m n : ℕ) → m < 2 ^ 127 → n < 2 ^ 127 → decimal m ≡ decimal n → m ≡ n
decimal_one m n h k e = sym (decimal_is_IsNumeral_wide m (below-64 m h)).1 ∙ ap (digits_value 10) e ∙ (decimal_is_IsNumeral_wide n (below-64 n k)).1

point-plain : (ds : List ℕ) (k : ℕ) → AllDigits 10 ds → AllByRecursion PlainByte (with_point ds k)
point-plain ds k h =
    let all = append-digits (replicate (suc k - length ds) 48) ds (zeros-digits (suc k - length ds)) h in
    let padded = replicate (suc k - length ds) 48 ++ ds in
    all-append PlainByte (take (length padded - k) padded) (46 ∷ drop (length padded - k) padded)
    (plain_digits _ (take-digits (length padded - k) padded all))
    ((omega arith, omega arith, omega arith), plain_digits _ (drop-digits (length padded - k) padded all))

minus-plain : (z : ℤ) → AllByRecursion PlainByte (minus_text z)
minus-plain (pos n) = tt
minus-plain (negsuc n) = ((omega arith, omega arith, omega arith), tt)

-- ---- with '/' or without
-- numerator, '/' and denominator
abbrev pub over : ℚ → List ℕ
over x = (minus_text (numerator x) ++ decimal (unsigned_abs (numerator x))) ++ (47 ∷ decimal (denominator x))

pub data Form (x : ℚ) : Type 0 where
  numeral : IsPrintedAsNumeral x → AllByRecursion PlainByte (printed x) → Form x
  quotient : printed x ≡ over x → Form x

signed-plain : (z : ℤ) (text : List ℕ) → AllByRecursion PlainByte text → AllByRecursion PlainByte (minus_text z ++ text)
signed-plain z text h = all-append PlainByte (minus_text z) text (minus-plain z) h

sized : (d : ℕ) (a b : List ℕ) (s : List ℕ) → d ≡ 1 → s ++ cond (eqb d 1) a b ≡ s ++ a
sized d a b s e = ap (λ t. s ++ cond t a b) (eq-eqb d 1 e)

broken : (d : ℕ) (a b : List ℕ) (s : List ℕ) → d ≢ 1 → s ++ cond (eqb d 1) a b ≡ s ++ b
broken d a b s e = ap (λ t. s ++ cond t a b) (ne_eqb d 1 e)

short-form : (x : ℚ) → denominator x ≢ 1 → (o : Option Decimal) → short_decimal (unsigned_abs (numerator x)) (denominator x) ≡ o
    → ((y : Decimal) → o ≡ Some y → y.digits < 2 ^ 127) → Form x
short-form x more None e h =
    quotient (broken (denominator x) _ _ (minus_text (numerator x)) more
    ∙ ap (λ o. minus_text (numerator x) ++ fraction_text (unsigned_abs (numerator x)) (denominator x) o) e
    ∙ sym (append_assoc (minus_text (numerator x)) (decimal (unsigned_abs (numerator x))) (47 ∷ decimal (denominator x))))
short-form x more (Some y) e h =
    let is : printed x ≡ minus_text (numerator x) ++ with_point (decimal y.digits) y.places = broken (denominator x) _ _ (minus_text (numerator x)) more
    ∙ ap (λ o. minus_text (numerator x) ++ fraction_text (unsigned_abs (numerator x)) (denominator x) o) e in
    numeral (inr (ap is_some e))
    (subst (AllByRecursion PlainByte) (sym is) (signed-plain (numerator x) _ (point-plain (decimal y.digits) y.places (decimal-digits y.digits (h y refl)))))

small-digits : (n d : ℕ) (o : Option ℕ) (y : Decimal) → decimal_with n d o ≡ Some y → y.digits < 2 ^ 127
small-digits n d None y e = absurd (cc)
small-digits n d (Some k) y e = by_test (nat_lt (n * (10 ^ k / d)) (2 ^ 127)) (ltb-true (n * (10 ^ k / d)) (2 ^ 127)) e
  where
    by_test : (t : Bool) → (t ≡ true → n * (10 ^ k / d) < 2 ^ 127) → cond t (Some (record { digits = n * (10 ^ k / d); places = k })) None ≡ Some y → y.digits < 2 ^ 127
    by_test true h q = let r : ◌≡◌ {A = Decimal} (record { digits = n * (10 ^ k / d); places = k }) y = cc in subst (λ (z : Decimal). z.digits < 2 ^ 127) r (h refl)
    by_test false h q = absurd (cc)

pub form : (x : ℚ) → IsNarrow x → Form x
form x h = ⊎_elim
    (λ one. numeral (inl one) (subst (AllByRecursion PlainByte) (sym (sized (denominator x) _ _ (minus_text (numerator x)) one)) (signed-plain (numerator x) _ (decimal-plain _ h.num))))
    (λ more. short-form x more _ refl (λ y e. small-digits _ _ (least_places 19 0 (denominator x)) y e))
    (cases_eq (denominator x) 1)

number_of_plain : (b : ℕ) → PlainByte b → NumberByte b
number_of_plain b h = (h.0, h.1)

pub number_bytes : (x : ℚ) → IsNarrow x → AllByRecursion NumberByte (printed x)
number_bytes x h = by_form (form x h)
  where
    by_form : Form x → AllByRecursion NumberByte (printed x)
    by_form (numeral p all) = all_map PlainByte NumberByte number_of_plain (printed x) all
    by_form (quotient e) = subst (AllByRecursion NumberByte) (sym e)
        (all-append NumberByte (minus_text (numerator x) ++ decimal (unsigned_abs (numerator x))) (47 ∷ decimal (denominator x))
        (all_map PlainByte NumberByte number_of_plain _ (signed-plain (numerator x) _ (decimal-plain _ h.num)))
        ((omega arith, omega arith), all_map PlainByte NumberByte number_of_plain _ (decimal-plain _ h.den)))

-- ---- no text of two numbers
numerals_one : (x y : ℚ) → IsNarrow x → IsNarrow y → IsPrintedAsNumeral x → IsPrintedAsNumeral y → printed x ≡ printed y → x ≡ y
numerals_one x y h k p q e =
    let a = printed_reads_back x h p in
    let b = printed_reads_back y k q in
    let same = spells_one (printed y) a.0 b.0 (subst (λ t. Spells t a.0) e a.1.0) b.1.0 in
    sym a.1.2 ∙ ap value same ∙ b.1.2

-- whole numbers are printed without '/'
pub printed_whole : (z : ℤ) → printed (whole_ℚ z) ≡ minus_text z ++ decimal (unsigned_abs z)
printed_whole z =
    sized (denominator (whole_ℚ z)) _ _ (minus_text (numerator (whole_ℚ z))) (whole_numbers.beneath z)
    ∙ ap (λ n. minus_text n ++ decimal (unsigned_abs n)) (whole_numbers.on_top z)

pub whole_one : (z w : ℤ) → IsNarrowWhole z → IsNarrowWhole w → printed (whole_ℚ z) ≡ printed (whole_ℚ w) → z ≡ w
whole_one z w h k e = whole_injective z w (numerals_one (whole_ℚ z) (whole_ℚ w) ((narrow-whole z).0 h) ((narrow-whole w).0 k) (inl (whole_numbers.beneath z)) (inl (whole_numbers.beneath w)) e)

no_slash : (b : ℕ) → PlainByte b → b ≢ 47
no_slash b h = h.2

pub front-plain : (x : ℚ) → IsNarrow x → Lacks 47 (minus_text (numerator x) ++ decimal (unsigned_abs (numerator x)))
front-plain x h = all_map PlainByte (λ b. b ≢ 47) no_slash _ (signed-plain (numerator x) _ (decimal-plain _ h.num))

quotients_one : (x y : ℚ) → IsNarrow x → IsNarrow y → over x ≡ over y → x ≡ y
quotients_one x y h k e =
    let c = cut 47 _ _ _ _ (front-plain x h) (front-plain y k) e in
    let top : numerator x ≡ numerator y = whole_one (numerator x) (numerator y) h.num k.num (printed_whole (numerator x) ∙ c.front ∙ sym (printed_whole (numerator y))) in
    let low : denominator x ≡ denominator y = decimal_one _ _ h.den k.den c.back in
    sym (frac_self x) ∙ ap₂ frac top low ∙ frac_self y

unlike : {P : Type 0} (y : ℚ) (text : List ℕ) → AllByRecursion PlainByte text → text ≡ over y → P
unlike y text h e =
    let all = all-back PlainByte (minus_text (numerator y) ++ decimal (unsigned_abs (numerator y))) (47 ∷ decimal (denominator y)) (subst (AllByRecursion PlainByte) e h) in
    absurd (all.0.2 refl)

pub printed_one : (x y : ℚ) → IsNarrow x → IsNarrow y → printed x ≡ printed y → x ≡ y
printed_one x y h k e = by_forms (form x h) (form y k)
  where
    by_forms : Form x → Form y → x ≡ y
    by_forms (numeral p a) (numeral q b) = numerals_one x y h k p q e
    by_forms (numeral p a) (quotient b) = unlike y (printed x) a (e ∙ b)
    by_forms (quotient a) (numeral q b) = unlike x (printed y) b (sym e ∙ a)
    by_forms (quotient a) (quotient b) = quotients_one x y h k (sym a ∙ e ∙ b)
