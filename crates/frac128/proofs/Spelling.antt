-- What is read from the left is what is spelled.
use Rattle.std.proofs.Common.{◌≡◌, ℕ, Bool, true, false, cond, ◌||◌, nat_lt, List, ◌++◌, length, Some, None, refl, sym, ap, ap₂, subst, ◌∙◌}
use Rattle.std.proofs.lemmas.Bool.{and_parts, and_from}
use Rattle.std.specs.Str.Parse.{digits_value}
use Rattle.frac128.specs.Signed.{signed}
use Rattle.frac128.specs.Numeral.{Numeral, Spells}
use Rattle.frac128.specs.NumeralReading.{front_digits, past_digits, front_minus, past_sign, front_fraction, past_fraction, exponent_minus, exponent_digits, past_exponent, whole_exponent, ends, reading}
use Rattle.frac128.proofs.FrontDigits.{front-is-digits, front-past}
use Rattle.frac128.proofs.Signs.{sign-found, sign-front}
use Rattle.frac128.proofs.Mantissas.{mantissa-found, mantissa-read}
use Rattle.frac128.proofs.Exponents.{exponent-found, exponent-read, percent-found, percent-read}

chosen : {A : Type 0} (b : Bool) (x y : A) → cond b (Some x) None ≡ Some y → (b ≡ true) × (x ≡ y)
chosen true x y e = (refl, cc)
chosen false x y e = cc

-- what is read is spelled so
pub reading-sound : (text : List ℕ) (n : Numeral) → reading text ≡ Some n → Spells text n
reading-sound text n e =
    let a = past_sign text in
    let b = past_digits a in
    let c = past_fraction b in
    let d = past_exponent c in
    let found = chosen _ _ _ e in
    let first = and_parts _ _ found.0 in
    let second = and_parts _ _ first.0 in
    let s = sign-found text in
    let m = mantissa-found (front_digits a) b (front-is-digits a) second.0 in
    let x = exponent-found c second.1 in
    subst (Spells text) found.1 (record {
      sign = s.sign;
      mantissa = m.mantissa;
      exponent = x.exponent;
      percent = d;
      joined = s.joined ∙ ap (λ r. s.sign ++ r) (front-past a ∙ m.joined ∙ ap (λ r. m.mantissa ++ r) x.joined);
      sign_is = s.spelled;
      mantissa_is = m.spelled;
      exponent_is = x.spelled;
      percent_is = percent-found d first.1;
    })

-- the numeral that is read where one is
abbrev read_of : List ℕ → Numeral
read_of text = record {
  negative = front_minus text;
  before = front_digits (past_sign text);
  behind = front_fraction (past_digits (past_sign text));
  exponent = signed (exponent_minus (past_fraction (past_digits (past_sign text)))) (digits_value 10 (exponent_digits (past_fraction (past_digits (past_sign text)))));
  percent = nat_lt 0 (length (past_exponent (past_fraction (past_digits (past_sign text)))));
}

-- what is spelled is read so
pub reading-complete : (text : List ℕ) (n : Numeral) → Spells text n → reading text ≡ Some n
reading-complete text n h =
    let p = percent-read h.percent n.percent h.percent_is in
    let x = exponent-read h.percent p.past_exponent p.past_mantissa h.exponent n.exponent h.exponent_is in
    let m = mantissa-read (h.exponent ++ h.percent) x.past_mantissa h.mantissa n.before n.behind h.mantissa_is in
    let s = sign-front (h.mantissa ++ (h.exponent ++ h.percent)) m.unsigned h.sign n.negative h.sign_is in
    let minus_is : front_minus text ≡ n.negative = ap front_minus h.joined ∙ s.0 in
    let past : past_sign text ≡ h.mantissa ++ (h.exponent ++ h.percent) = ap past_sign h.joined ∙ s.1 in
    let c = past_fraction (past_digits (past_sign text)) in
    let before_is : front_digits (past_sign text) ≡ n.before = ap front_digits past ∙ m.before_is in
    let behind_is : front_fraction (past_digits (past_sign text)) ≡ n.behind = ap (λ r. front_fraction (past_digits r)) past ∙ m.behind_is in
    let c_is : c ≡ h.exponent ++ h.percent = ap (λ r. past_fraction (past_digits r)) past ∙ m.rest_is in
    let exponent_is : signed (exponent_minus c) (digits_value 10 (exponent_digits c)) ≡ n.exponent = ap (λ r. signed (exponent_minus r) (digits_value 10 (exponent_digits r))) c_is ∙ x.exponent_is in
    let d_is : past_exponent c ≡ h.percent = ap past_exponent c_is ∙ x.rest_is in
    let percent_is : nat_lt 0 (length (past_exponent c)) ≡ n.percent = ap (λ r. nat_lt 0 (length r)) d_is ∙ p.percent_is in
    let some_digit : (nat_lt 0 (length (front_digits (past_sign text))) || nat_lt 0 (length (front_fraction (past_digits (past_sign text))))) ≡ true =
    ap₂ (λ r t. nat_lt 0 (length r) || nat_lt 0 (length t)) before_is behind_is ∙ m.some_digit in
    let complete : whole_exponent c ≡ true = ap whole_exponent c_is ∙ x.complete in
    let ended : ends (past_exponent c) ≡ true = ap ends d_is ∙ p.complete in
    let same : ◌≡◌ {A = Numeral} (read_of text) n = λ i. record { negative = minus_is i; before = before_is i; behind = behind_is i; exponent = exponent_is i; percent = percent_is i } in
    ap (λ t. cond t (Some (read_of text)) None) (and_from _ _ (and_from _ _ some_digit complete) ended) ∙ ap Some same

-- no text spells two numerals
pub spells_one : (text : List ℕ) (n m : Numeral) → Spells text n → Spells text m → n ≡ m
spells_one text n m h k = same_some n m (sym (reading-complete text n h) ∙ reading-complete text m k)
  where
    same_some : (n m : Numeral) → Some n ≡ Some m → n ≡ m
    same_some n m e = cc
