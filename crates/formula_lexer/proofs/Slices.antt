-- Tokens stand in their order, each within the text.
use Rattle.std.proofs.Common.{◌≡◌, ◌≤◌, ◌<◌, ◌+◌, ◌-◌, ℕ, suc, Bool, true, false, List, [], ◌∷◌, length, drop, refl, sym, ap, ◌∙◌, arith, Option, Some, None, if◌then◌else◌, length-drop, add-one}
use Rattle.std.specs.Prelude.{◌&&◌, ◌||◌, not, nat_eq, take_while}
use Rattle.std.specs.Option.{option_map}
use Rattle.std.specs.List.{prefix_len}
use Rattle.std.proofs.lemmas.List.{drop-drop, length-take}
use Rattle.formula_lexer.specs.Front.{Front, begins_with, digits, exponent, fault_len, first, fraction, front, front_of, continues_word, is_digit, is_mark, is_pair, mantissa, number_len, of_kind, opens_name, quoted_len, sign, starts_number, starts_word, word_rest}
use Rattle.formula_lexer.specs.Tokens.{AreSlices, Tokens, ends, blank, begins}
use Rattle.formula_lexer.specs.declared.token.TokenKind.TheVariants as token
use Rattle.cell_refs.specs.ErrorText.{error_text}
use Rattle.cell_refs.specs.declared.error_kind.ErrorKind.TheVariants as kind
use Rattle.formula_lexer.specs.declared.token.Token.{Token}
use Rattle.formula_lexer.specs.declared.token.TokenKind.{TokenKind}
use Rattle.formula_lexer.proofs.Prefixes.{begins_within}

-- what is taken is no longer than the whole
taken_within : (test : ℕ → Bool) (bytes : List ℕ) → length (take_while test bytes) ≤ length bytes
taken_within test bytes = omega (arith, length-take (prefix_len test bytes) bytes)

word_within : (bytes : List ℕ) → word_rest bytes ≤ length bytes
word_within [] = omega arith
word_within (b ∷ bytes) = by (continues_word b && not (opens_name b (first bytes))) (word_within bytes)
  where
    by : (t : Bool) → word_rest bytes ≤ length bytes → (if t then suc (word_rest bytes) else 0) ≤ suc (length bytes)
    by true h = omega (arith, h)
    by false h = omega arith

fraction_within : (bytes : List ℕ) → fraction bytes ≤ length bytes
fraction_within [] = omega arith
fraction_within (b ∷ bytes) = by (nat_eq b 46)
  where
    by : (t : Bool) → (if t then suc (digits bytes) else 0) ≤ length (b ∷ bytes)
    by true = omega (arith, taken_within is_digit bytes)
    by false = omega arith

sign_at_most : (t : Bool) → (if t then 1 else 0) ≤ 1
sign_at_most true = omega arith
sign_at_most false = omega arith

exponent_within : (bytes : List ℕ) → exponent bytes ≤ length bytes
exponent_within [] = omega arith
exponent_within (b ∷ bytes) = by ((nat_eq b 101 || nat_eq b 69) && not (nat_eq (digits (drop (sign bytes) bytes)) 0)) bytes (sign bytes) (sign_within bytes)
  where
    sign_within : (bytes : List ℕ) → sign bytes ≤ length bytes
    sign_within [] = omega arith
    sign_within (c ∷ bytes) = omega (arith, sign_at_most (nat_eq c 43 || nat_eq c 45))

    by : (t : Bool) (bytes : List ℕ) (n : ℕ) → n ≤ length bytes → (if t then suc (n + digits (drop n bytes)) else 0) ≤ suc (length bytes)
    by true bytes n h = omega (arith, taken_within is_digit (drop n bytes), length-drop n bytes)
    by false bytes n h = omega arith

number_within : (bytes : List ℕ) → number_len bytes ≤ length bytes
number_within bytes =
    let whole = taken_within is_digit bytes in
    let point = fraction_within (drop (digits bytes) bytes) in
    let power = exponent_within (drop (mantissa bytes) bytes) in
    omega (arith, length-drop (digits bytes) bytes, length-drop (mantissa bytes) bytes)

mapped : (k n : ℕ) (o : Option ℕ) → option_map (λ m. k + m) o ≡ Some n → (m : ℕ) × (o ≡ Some m) × (n ≡ k + m)
mapped k n None h = cc h
mapped k n (Some m) h = (m, refl, cc h)

quoted_within : (q n : ℕ) (bytes : List ℕ) → quoted_len q bytes ≡ Some n → n ≤ length bytes
unfolding quoted_len
quoted_within q n [] h = cc h
quoted_within q n (b ∷ []) h = by (nat_eq b q) h
  where
    by : (t : Bool) → (if t then Some 1 else None) ≡ Some n → n ≤ 1
    by true h = let e : 1 ≡ n = cc h in omega arith
    by false h = cc h
quoted_within q n (b ∷ c ∷ bytes) h = by (nat_eq b q) (nat_eq c q) (λ m e. quoted_within q m bytes e) (λ m e. quoted_within q m (c ∷ bytes) e) h
  where
    by : (t u : Bool) → ((m : ℕ) → quoted_len q bytes ≡ Some m → m ≤ length bytes) → ((m : ℕ) → quoted_len q (c ∷ bytes) ≡ Some m → m ≤ suc (length bytes))
        → (if t then (if u then option_map (λ m. 2 + m) (quoted_len q bytes) else Some 1) else option_map (λ m. 1 + m) (quoted_len q (c ∷ bytes))) ≡ Some n → n ≤ suc (suc (length bytes))
    by true true two one h = let m = mapped 2 n (quoted_len q bytes) h in omega (arith, two m.0 m.1, m.2)
    by true false two one h = let e : 1 ≡ n = cc h in omega arith
    by false u two one h = let m = mapped 1 n (quoted_len q (c ∷ bytes)) h in omega (arith, one m.0 m.1, m.2)

-- a token has a byte, and is no longer than the bytes
pub record Fits (bytes : List ℕ) (f : Front) : Type 0 where
  pub fits : (kind : TokenKind) (len : ℕ) → f ≡ Some (kind, len) → (0 < len) × (len ≤ length bytes)

no_front : (bytes : List ℕ) → Fits bytes None
no_front bytes = record { fits = λ kind len h. cc h }

abbrev length_of : Front → ℕ
length_of None = 0
length_of (Some f) = f.1

this_long : (bytes : List ℕ) (kind : TokenKind) (n : ℕ) → 0 < n → n ≤ length bytes → Fits bytes (Some (kind, n))
this_long bytes kind n some within = record { fits = λ k len h. let e : n ≡ len = ap (λ (f : Front). length_of f) h in (omega (arith, some), omega (arith, within)) }

of_kind_fits : (bytes : List ℕ) (kind : TokenKind) (start : ℕ) (o : Option ℕ) → ((n : ℕ) → o ≡ Some n → (0 < start + n) × (start + n ≤ length bytes)) → Fits bytes (of_kind kind start o)
of_kind_fits bytes kind start None h = no_front bytes
of_kind_fits bytes kind start (Some n) h = let k = h n refl in this_long bytes kind (start + n) k.0 k.1

choice : (bytes : List ℕ) (t : Bool) (f g : Front) → (t ≡ true → Fits bytes f) → Fits bytes g → Fits bytes (if t then f else g)
choice bytes true f g h k = h refl
choice bytes false f g h k = k

first_true : (t u : Bool) → (t && u) ≡ true → t ≡ true
first_true true u h = refl
first_true false u h = cc h

number_some : (b : ℕ) (bytes : List ℕ) → starts_number b bytes ≡ true → 0 < number_len (b ∷ bytes)
number_some b bytes h = by (is_digit b) refl h
  where
    by : (t : Bool) → is_digit b ≡ t → (t || (nat_eq b 46 && is_digit (first bytes))) ≡ true → 0 < number_len (b ∷ bytes)
    by true e h = let k : prefix_len is_digit (b ∷ bytes) ≡ suc (prefix_len is_digit bytes) = rw e (omega arith) in omega (arith, length-take (prefix_len is_digit (b ∷ bytes)) (b ∷ bytes))
    by false e h = let k : digits (b ∷ bytes) ≡ 0 = rw e refl in let point = first_true (nat_eq b 46) (is_digit (first bytes)) h in let j : 0 < fraction (drop (digits (b ∷ bytes)) (b ∷ bytes)) = rw (k, point) (omega arith) in omega arith

drop_one : (bytes : List ℕ) → length (drop 1 bytes) ≤ length bytes
drop_one bytes = omega (arith, length-drop 1 bytes)

fault_within : (bytes : List ℕ) (n : ℕ) → fault_len bytes ≡ Some n → (0 < n) × (n ≤ length bytes)
fault_within bytes n h =
    by (begins_with (error_text kind.Div0) bytes) (begins_with (error_text kind.Value) bytes) (begins_with (error_text kind.Ref) bytes) (begins_with (error_text kind.Num) bytes) (begins_with (error_text kind.NotAvailable) bytes)
    (begins_within (error_text kind.Div0) bytes) (begins_within (error_text kind.Value) bytes) (begins_within (error_text kind.Ref) bytes) (begins_within (error_text kind.Num) bytes) (begins_within (error_text kind.NotAvailable) bytes) h
  where
    by : (a b c d e : Bool) → (a ≡ true → 7 ≤ length bytes) → (b ≡ true → 7 ≤ length bytes) → (c ≡ true → 5 ≤ length bytes) → (d ≡ true → 5 ≤ length bytes) → (e ≡ true → 4 ≤ length bytes)
        → (if a then Some 7 else if b then Some 7 else if c then Some 5 else if d then Some 5 else if e then Some 4 else None) ≡ Some n → (0 < n) × (n ≤ length bytes)
    by true b c d e f g i j k h = let m : 7 ≡ n = cc h in (omega (arith, m), omega (arith, m, f refl))
    by false true c d e f g i j k h = let m : 7 ≡ n = cc h in (omega (arith, m), omega (arith, m, g refl))
    by false false true d e f g i j k h = let m : 5 ≡ n = cc h in (omega (arith, m), omega (arith, m, i refl))
    by false false false true e f g i j k h = let m : 5 ≡ n = cc h in (omega (arith, m), omega (arith, m, j refl))
    by false false false false true f g i j k h = let m : 4 ≡ n = cc h in (omega (arith, m), omega (arith, m, k refl))
    by false false false false false f g i j k h = cc h

second_true : (t u : Bool) → (t && u) ≡ true → u ≡ true
second_true true u h = h
second_true false u h = cc h

no_pair : (t u : Bool) → ((false && (t || u)) || (t && false)) ≡ true → ⊥
no_pair true u h = cc h
no_pair false u h = cc h

pub front_fits : (b : ℕ) (bytes : List ℕ) → Fits (b ∷ bytes) (front_of b bytes)
front_fits b bytes =
    choice (b ∷ bytes) (starts_number b bytes) _ _ (λ e. this_long (b ∷ bytes) token.Number (number_len (b ∷ bytes)) (number_some b bytes e) (number_within (b ∷ bytes)))
    (choice (b ∷ bytes) (nat_eq b 34) _ _ (λ e. of_kind_fits (b ∷ bytes) token.Text 1 (quoted_len 34 bytes) (λ n h. (omega arith, omega (arith, quoted_within 34 n bytes h))))
    (choice (b ∷ bytes) (nat_eq b 39) _ _ (λ e. of_kind_fits (b ∷ bytes) token.Quoted 1 (quoted_len 39 bytes) (λ n h. (omega arith, omega (arith, quoted_within 39 n bytes h))))
    (choice (b ∷ bytes) (opens_name b (first bytes)) _ _ (λ e. dollar bytes (second_true (nat_eq b 36) (nat_eq (first bytes) 39) e))
    (choice (b ∷ bytes) (nat_eq b 35) _ _ (λ e. of_kind_fits (b ∷ bytes) token.Fault 0 (fault_len (b ∷ bytes)) (λ n h. let k = fault_within (b ∷ bytes) n h in (omega (arith, k.0), omega (arith, k.1))))
    (choice (b ∷ bytes) (starts_word b) _ _ (λ e. this_long (b ∷ bytes) token.Word (suc (word_rest bytes)) (omega arith) (omega (arith, word_within bytes)))
    (choice (b ∷ bytes) (is_pair b (first bytes)) _ _ (λ e. pair bytes e)
    (choice (b ∷ bytes) (is_mark b) _ _ (λ e. this_long (b ∷ bytes) token.Mark 1 (omega arith) (omega arith)) (no_front (b ∷ bytes)))))))))
  where
    dollar : (bytes : List ℕ) → nat_eq (first bytes) 39 ≡ true → Fits (b ∷ bytes) (of_kind token.Quoted 2 (quoted_len 39 (drop 1 bytes)))
    dollar [] e = cc e
    dollar (c ∷ rest) e = of_kind_fits (b ∷ c ∷ rest) token.Quoted 2 (quoted_len 39 rest) (λ n h. (omega arith, omega (arith, quoted_within 39 n rest h)))

    pair : (bytes : List ℕ) → is_pair b (first bytes) ≡ true → Fits (b ∷ bytes) (Some (token.Mark, 2))
    pair [] e = absurd (no_pair (nat_eq b 60) (nat_eq b 62) e)
    pair (c ∷ rest) e = this_long (b ∷ c ∷ rest) token.Mark 2 (omega arith) (omega arith)

shorter : (b : ℕ) (rest text : List ℕ) (at : ℕ) → b ∷ rest ≡ drop at text → suc at ≤ length text
shorter b rest text at is = omega (arith, ap length is, length-drop at text)

next : (b : ℕ) (rest text : List ℕ) (at : ℕ) → b ∷ rest ≡ drop at text → rest ≡ drop (suc at) text
next b rest text at is = let e : drop 1 (b ∷ rest) ≡ drop 1 (drop at text) = ap (drop 1) is in e ∙ drop-drop 1 at text ∙ ap (λ n. drop n text) (add-one at)

from_bytes : (text bytes : List ℕ) (at : ℕ) (ts : List Token) → at ≤ length text → bytes ≡ drop at text → Tokens at bytes ts → (from : ℕ) → from ≤ at → AreSlices text from ts
from_bytes text bytes at ts within is ends from h = omega (arith, h, within)
from_bytes text bytes at ts within is (blank {b = b} {bytes = rest} blank_b others) from h =
    from_bytes text rest (suc at) ts (shorter b rest text at is) (next b rest text at is) others from (omega arith)
from_bytes text bytes at ts within is (begins {b = b} {bytes = rest} kind len no_blank is_front others) from h =
    let fits = (front_fits b rest).fits kind len is_front in
    let here : front (drop at text) ≡ Some (kind, len) = ap front (sym is) ∙ is_front in
    let size : (at + len) - at ≡ len = omega arith in
    let room : length (drop at text) ≡ length (b ∷ rest) = ap length (sym is) in (
      h,
      omega (arith, fits.0),
      here ∙ ap (λ n. Some (kind, n)) (sym size),
      from_bytes text (drop len (b ∷ rest)) (at + len) _ (omega (arith, fits.1, room, length-drop at text, within)) (ap (drop len) is ∙ drop-drop len at text) others (at + len) (omega arith),
    )

pub slices : (text : List ℕ) (ts : List Token) → Tokens 0 text ts → AreSlices text 0 ts
slices text ts h = from_bytes text text 0 ts (omega arith) refl h 0 (omega arith)
