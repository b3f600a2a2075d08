-- Tokens begin and end between characters.
use Rattle.std.proofs.Common.{◌≡◌, ◌⊎◌, ℕ, zero, suc, ◌+◌, ◌-◌, ◌<◌, ◌≤◌, Bool, true, false, cond, List, [], ◌∷◌, length, drop, get_or, Option, Some, None, refl, sym, ap, subst, ◌∙◌, inl, inr, arith, if◌then◌else◌, length-drop, get_or-drop, add-one}
use Rattle.std.specs.Prelude.{◌&&◌, ◌||◌, not, nat_eq}
use Rattle.std.specs.Str.{IsCharBoundary, IsUtf8}
use Rattle.std.specs.List.{prefix_len}
use Rattle.std.specs.Option.{option_map}
use Rattle.std.proofs.lemmas.List.{drop-drop}
use Rattle.std.proofs.lemmas.List.Folds.{length-prefix_len}
use Rattle.std.proofs.lemmas.List.Sums.{prefix_len_passes}
use Rattle.std.proofs.lemmas.Bool.Decides.{nat_tests}
use Rattle.std.proofs.lemmas.Str.{IsCharBoundary-after_ascii, IsCharBoundary-before_ascii, IsCharBoundary-end, IsCharBoundary-start}
use Rattle.cell_refs.specs.ErrorText.{error_text}
use Rattle.cell_refs.specs.declared.error_kind.ErrorKind.TheVariants as kind
use Rattle.formula_lexer.specs.declared.token.Token.{Token}
use Rattle.formula_lexer.specs.declared.token.TokenKind.{TokenKind}
use Rattle.formula_lexer.specs.declared.token.TokenKind.TheVariants as token
use Rattle.formula_lexer.specs.Front.{Front, begins_with, digits, exponent, fault_len, first, fraction, front, front_of, continues_word, is_blank, is_digit, is_mark, is_pair, mantissa, number_len, of_kind, opens_name, quoted_len, sign, starts_number, starts_word, word_rest}
use Rattle.formula_lexer.specs.Tokens.{Tokens, ends, blank, begins}
use Rattle.formula_lexer.proofs.Slices.{front_fits}
use Rattle.std.specs.Prelude.{All}
use Rattle.std.proofs.lemmas.List.Elements.{All-cons, All-nil}
use Rattle.formula_grammar.specs.declared.symbol.Symbol.{Symbol}
use Rattle.formula_grammar.specs.Symbols.{symbols_of}
use Rattle.formula_parser.specs.Placed.{InOrder, IsInText}

-- a cut of a text lies behind a byte of ASCII, before one, or at the end
pub data Cut (bytes : List ℕ) (len : ℕ) : Type 0 where
  behind : 0 < len → len ≤ length bytes → get_or bytes (len - 1) 0 < 128 → Cut bytes len
  before : len < length bytes → get_or bytes len 0 < 128 → Cut bytes len
  at_end : len ≡ length bytes → Cut bytes len

pub cut_boundary : (text : List ℕ) (at len : ℕ) → IsUtf8 text → at ≤ length text → Cut (drop at text) len → IsCharBoundary text (at + len)
cut_boundary text at len utf8 within (behind some short ascii) =
    let last : get_or text (at + (len - 1)) 0 < 128 = subst (λ x. x < 128) (get_or-drop at text (len - 1) 0) ascii in
    let there : at + (len - 1) < length text = omega (arith, length-drop at text) in
    let same : (at + (len - 1)) + 1 ≡ at + len = omega arith in
    subst (IsCharBoundary text) same (IsCharBoundary-after_ascii text (at + (len - 1)) utf8 there last)
cut_boundary text at len utf8 within (before short ascii) =
    IsCharBoundary-before_ascii text (at + len) (omega (arith, length-drop at text)) (subst (λ x. x < 128) (get_or-drop at text len 0) ascii)
cut_boundary text at len utf8 within (at_end is) =
    let same : length text ≡ at + len = omega (arith, length-drop at text) in
    subst (IsCharBoundary text) same (IsCharBoundary-end text)

-- ---- numbers are ASCII

-- the first so many bytes are ASCII
abbrev AreAscii : List ℕ → ℕ → Type 0
AreAscii bytes n = (i : ℕ) → i < n → get_or bytes i 0 < 128

digit_ascii : (b : ℕ) → is_digit b ≡ true → b < 128
digit_ascii b h = grind (arith, nat_tests)

digits_are : (bytes : List ℕ) → digits bytes ≡ prefix_len is_digit bytes
digits_are bytes = length-prefix_len is_digit bytes

digits_ascii : (bytes : List ℕ) → AreAscii bytes (digits bytes)
digits_ascii bytes i lt = digit_ascii (get_or bytes i 0) (prefix_len_passes is_digit bytes i 0 (omega (arith, digits_are bytes)))

fraction_ascii : (bytes : List ℕ) → AreAscii bytes (fraction bytes)
fraction_ascii [] i lt = absurd (omega arith)
fraction_ascii (b ∷ bytes) i lt = by (nat_eq b 46) refl i lt
  where
    by : (t : Bool) → nat_eq b 46 ≡ t → (i : ℕ) → i < (if t then suc (digits bytes) else 0) → get_or (b ∷ bytes) i 0 < 128
    by true e zero lt = grind (arith, nat_tests)
    by true e (suc i) lt = digits_ascii bytes i (omega arith)
    by false e i lt = absurd (omega arith)

sign_ascii : (bytes : List ℕ) → AreAscii bytes (sign bytes)
sign_ascii bytes i lt = by (nat_eq (first bytes) 43) (nat_eq (first bytes) 45) refl refl bytes refl i lt
  where
    by : (t u : Bool) → nat_eq (first bytes) 43 ≡ t → nat_eq (first bytes) 45 ≡ u → (c : List ℕ) → c ≡ bytes → (i : ℕ) → i < (if t || u then 1 else 0) → get_or c i 0 < 128
    by false false e f c same i lt = absurd (omega arith)
    by true u e f [] same i lt = absurd (let k : nat_eq (first []) 43 ≡ true = ap (λ x. nat_eq (first x) 43) same ∙ e in cc)
    by true u e f (x ∷ c) same zero lt = let k : nat_eq x 43 ≡ true = ap (λ x. nat_eq (first x) 43) same ∙ e in grind (arith, nat_tests)
    by true u e f (x ∷ c) same (suc i) lt = absurd (omega arith)
    by false true e f [] same i lt = absurd (let k : nat_eq (first []) 45 ≡ true = ap (λ x. nat_eq (first x) 45) same ∙ f in cc)
    by false true e f (x ∷ c) same zero lt = let k : nat_eq x 45 ≡ true = ap (λ x. nat_eq (first x) 45) same ∙ f in grind (arith, nat_tests)
    by false true e f (x ∷ c) same (suc i) lt = absurd (omega arith)

-- ASCII behind ASCII
joined_ascii : (bytes : List ℕ) (n m : ℕ) → AreAscii bytes n → AreAscii (drop n bytes) m → AreAscii bytes (n + m)
joined_ascii bytes n m p q i lt = elim (below_or i n) [
  | inl small ↦ p i small
  | inr large ↦
      let same : n + (i - n) ≡ i = omega arith in
      subst (λ x. x < 128) (get_or-drop n bytes (i - n) 0 ∙ ap (λ k. get_or bytes k 0) same) (q (i - n) (omega arith))
]
  where
    below_or : (i n : ℕ) → (i < n) ⊎ (n ≤ i)
    below_or i zero = inr (omega arith)
    below_or zero (suc n) = inl (omega arith)
    below_or (suc i) (suc n) = elim (below_or i n) [ inl h ↦ inl (omega arith) | inr h ↦ inr (omega arith) ]

exponent_ascii : (bytes : List ℕ) → AreAscii bytes (exponent bytes)
exponent_ascii [] i lt = absurd (omega arith)
exponent_ascii (b ∷ bytes) i lt = by (nat_eq b 101) (nat_eq b 69) (not (nat_eq (digits (drop (sign bytes) bytes)) 0)) refl refl i lt
  where
    tail : AreAscii bytes (sign bytes + digits (drop (sign bytes) bytes))
    tail = joined_ascii bytes (sign bytes) (digits (drop (sign bytes) bytes)) (sign_ascii bytes) (digits_ascii (drop (sign bytes) bytes))

    by : (t u v : Bool) → nat_eq b 101 ≡ t → nat_eq b 69 ≡ u → (i : ℕ) → i < (if (t || u) && v then suc (sign bytes + digits (drop (sign bytes) bytes)) else 0) → get_or (b ∷ bytes) i 0 < 128
    by true u true e f zero lt = grind (arith, nat_tests)
    by true u true e f (suc i) lt = tail i (omega arith)
    by true u false e f i lt = absurd (omega arith)
    by false true true e f zero lt = grind (arith, nat_tests)
    by false true true e f (suc i) lt = tail i (omega arith)
    by false true false e f i lt = absurd (omega arith)
    by false false v e f i lt = absurd (omega arith)

number_ascii : (bytes : List ℕ) → AreAscii bytes (number_len bytes)
number_ascii bytes =
    joined_ascii bytes (mantissa bytes) (exponent (drop (mantissa bytes) bytes))
    (joined_ascii bytes (digits bytes) (fraction (drop (digits bytes) bytes)) (digits_ascii bytes) (fraction_ascii (drop (digits bytes) bytes)))
    (exponent_ascii (drop (mantissa bytes) bytes))

-- ---- the ends of tokens

-- a token that is found cuts the bytes between characters
pub record Cuts (bytes : List ℕ) (f : Front) : Type 0 where
  pub cuts : (kind : TokenKind) (len : ℕ) → f ≡ Some (kind, len) → Cut bytes len

length_of : Front → ℕ
length_of None = 0
length_of (Some f) = f.1

no_front : (bytes : List ℕ) → Cuts bytes None
no_front bytes = record { cuts = λ kind len h. cc h }

this_long : (bytes : List ℕ) (kind : TokenKind) (n : ℕ) → Cut bytes n → Cuts bytes (Some (kind, n))
unfolding length_of
this_long bytes kind n cut = record { cuts = λ k len h. let e : n ≡ len = ap (λ (f : Front). length_of f) h in subst (Cut bytes) e cut }

of_kind_cuts : (bytes : List ℕ) (kind : TokenKind) (start : ℕ) (o : Option ℕ) → ((n : ℕ) → o ≡ Some n → Cut bytes (start + n)) → Cuts bytes (of_kind kind start o)
of_kind_cuts bytes kind start None h = no_front bytes
of_kind_cuts bytes kind start (Some n) h = this_long bytes kind (start + n) (h n refl)

choice : (bytes : List ℕ) (t : Bool) (f g : Front) → (t ≡ true → Cuts bytes f) → (t ≡ false → Cuts bytes g) → Cuts bytes (if t then f else g)
choice bytes true f g h k = h refl
choice bytes false f g h k = k refl

mapped : (k n : ℕ) (o : Option ℕ) → option_map (λ m. k + m) o ≡ Some n → (m : ℕ) × (o ≡ Some m) × (n ≡ k + m)
mapped k n None h = cc h
mapped k n (Some m) h = (m, refl, cc h)

-- the closing quote is the last byte of a quoted text
record Closes (q n : ℕ) (bytes : List ℕ) : Type 0 where
  pub some : 0 < n
  pub within : n ≤ length bytes
  pub last : get_or bytes (n - 1) 0 ≡ q

later : (q m k : ℕ) (bytes front : List ℕ) → Closes q m bytes → drop k front ≡ bytes → k ≤ length front → Closes q (k + m) front
later q m k bytes front c same short =
    let place : k + (m - 1) ≡ (k + m) - 1 = let p = c.some in omega arith in
    record {
      some = let p = c.some in omega arith;
      within = omega (arith, c.within, ap length same, length-drop k front);
      last = ap (λ i. get_or front i 0) (sym place) ∙ sym (get_or-drop k front (m - 1) 0) ∙ ap (λ b. get_or b (m - 1) 0) same ∙ c.last;
    }

quoted_closes : (q n : ℕ) (bytes : List ℕ) → quoted_len q bytes ≡ Some n → Closes q n bytes
unfolding quoted_len
quoted_closes q n [] h = cc h
quoted_closes q n (b ∷ []) h = by (nat_eq b q) refl h
  where
    by : (t : Bool) → nat_eq b q ≡ t → (if t then Some 1 else None) ≡ Some n → Closes q n (b ∷ [])
    by true e h = let k : 1 ≡ n = cc h in subst (λ m. Closes q m (b ∷ [])) k (record { some = omega arith; within = omega arith; last = grind (arith, nat_tests) })
    by false e h = cc h
quoted_closes q n (b ∷ c ∷ bytes) h = by (nat_eq b q) (nat_eq c q) refl (λ m e. quoted_closes q m bytes e) (λ m e. quoted_closes q m (c ∷ bytes) e) h
  where
    by : (t u : Bool) → nat_eq b q ≡ t → ((m : ℕ) → quoted_len q bytes ≡ Some m → Closes q m bytes) → ((m : ℕ) → quoted_len q (c ∷ bytes) ≡ Some m → Closes q m (c ∷ bytes))
        → (if t then (if u then option_map (λ m. 2 + m) (quoted_len q bytes) else Some 1) else option_map (λ m. 1 + m) (quoted_len q (c ∷ bytes))) ≡ Some n → Closes q n (b ∷ c ∷ bytes)
    by true true e two one h = let m = mapped 2 n (quoted_len q bytes) h in subst (λ k. Closes q k (b ∷ c ∷ bytes)) (sym m.2) (later q m.0 2 bytes (b ∷ c ∷ bytes) (two m.0 m.1) refl (omega arith))
    by true false e two one h = let k : 1 ≡ n = cc h in subst (λ m. Closes q m (b ∷ c ∷ bytes)) k (record { some = omega arith; within = omega arith; last = grind (arith, nat_tests) })
    by false u e two one h = let m = mapped 1 n (quoted_len q (c ∷ bytes)) h in subst (λ k. Closes q k (b ∷ c ∷ bytes)) (sym m.2) (later q m.0 1 (c ∷ bytes) (b ∷ c ∷ bytes) (one m.0 m.1) refl (omega arith))

-- a quoted text behind some bytes
quote_cut : (q start n : ℕ) (bytes front : List ℕ) → q < 128 → drop start front ≡ bytes → start ≤ length front → quoted_len q bytes ≡ Some n → Cut front (start + n)
quote_cut q start n bytes front small same short h =
    let c = later q n start bytes front (quoted_closes q n bytes h) same short in
    behind c.some c.within (let e = c.last in omega arith)

both : (t u : Bool) → (t && u) ≡ true → (t ≡ true) × (u ≡ true)
both true u h = (refl, h)
both false u h = absurd cc

-- a word at the front
word_byte : (word bytes : List ℕ) (i : ℕ) → begins_with word bytes ≡ true → i < length word → (get_or bytes i 0 ≡ get_or word i 0) × (i < length bytes)
word_byte [] bytes i h lt = absurd (omega arith)
word_byte (w ∷ word) [] i h lt = cc h
word_byte (w ∷ word) (b ∷ bytes) zero h lt = let k = both (nat_eq w b) (begins_with word bytes) h in let e = k.0 in (grind (arith, nat_tests), omega arith)
word_byte (w ∷ word) (b ∷ bytes) (suc i) h lt = let k = both (nat_eq w b) (begins_with word bytes) h in let r = word_byte word bytes i k.1 (omega arith) in (r.0, omega (arith, r.1))

fault_cut : (word bytes : List ℕ) (n : ℕ) → begins_with word bytes ≡ true → n ≡ length word → 0 < n → get_or word (n - 1) 0 < 128 → Cut bytes n
fault_cut word bytes n h is some ascii = let r = word_byte word bytes (n - 1) h (omega arith) in behind some (omega (arith, r.1)) (omega (arith, r.0))

faults_cut : (bytes : List ℕ) (n : ℕ) → fault_len bytes ≡ Some n → Cut bytes n
faults_cut bytes n h = by (begins_with (error_text kind.Div0) bytes) (begins_with (error_text kind.Value) bytes) (begins_with (error_text kind.Ref) bytes) (begins_with (error_text kind.Num) bytes) (begins_with (error_text kind.NotAvailable) bytes) refl refl refl refl refl h
  where
    by : (a b c d e : Bool) → begins_with (error_text kind.Div0) bytes ≡ a → begins_with (error_text kind.Value) bytes ≡ b → begins_with (error_text kind.Ref) bytes ≡ c → begins_with (error_text kind.Num) bytes ≡ d
        → begins_with (error_text kind.NotAvailable) bytes ≡ e → (if a then Some 7 else if b then Some 7 else if c then Some 5 else if d then Some 5 else if e then Some 4 else None) ≡ Some n → Cut bytes n
    by true b c d e f g i j k h = let m : 7 ≡ n = cc h in subst (Cut bytes) m (fault_cut (error_text kind.Div0) bytes 7 f refl (omega arith) (omega arith))
    by false true c d e f g i j k h = let m : 7 ≡ n = cc h in subst (Cut bytes) m (fault_cut (error_text kind.Value) bytes 7 g refl (omega arith) (omega arith))
    by false false true d e f g i j k h = let m : 5 ≡ n = cc h in subst (Cut bytes) m (fault_cut (error_text kind.Ref) bytes 5 i refl (omega arith) (omega arith))
    by false false false true e f g i j k h = let m : 5 ≡ n = cc h in subst (Cut bytes) m (fault_cut (error_text kind.Num) bytes 5 j refl (omega arith) (omega arith))
    by false false false false true f g i j k h = let m : 4 ≡ n = cc h in subst (Cut bytes) m (fault_cut (error_text kind.NotAvailable) bytes 4 k refl (omega arith) (omega arith))
    by false false false false false f g i j k h = cc h

-- a word ends before a byte of ASCII, or at the end
other_ascii : (b : ℕ) → continues_word b ≡ false → b < 128
other_ascii b h = grind (arith, nat_tests)

opens_ascii : (b c : ℕ) → opens_name b c ≡ true → b < 128
opens_ascii b c h = grind (arith, nat_tests)

abbrev WordEnds : List ℕ → ℕ → Type 0
WordEnds bytes n = ((n < length bytes) × (get_or bytes n 0 < 128)) ⊎ (n ≡ length bytes)

word_ends : (bytes : List ℕ) → WordEnds bytes (word_rest bytes)
word_ends [] = inr refl
word_ends (b ∷ bytes) = by (continues_word b) (opens_name b (first bytes)) refl refl (word_ends bytes)
  where
    by : (t u : Bool) → continues_word b ≡ t → opens_name b (first bytes) ≡ u → WordEnds bytes (word_rest bytes) → WordEnds (b ∷ bytes) (if t && not u then suc (word_rest bytes) else 0)
    by true false e f (inl h) = inl (omega (arith, h.0), h.1)
    by true false e f (inr h) = inr (ap suc h)
    by true true e f h = inl (omega arith, opens_ascii b (first bytes) f)
    by false u e f h = inl (omega arith, other_ascii b e)

word_cut : (b : ℕ) (bytes : List ℕ) → Cut (b ∷ bytes) (suc (word_rest bytes))
word_cut b bytes = by (word_ends bytes)
  where
    by : WordEnds bytes (word_rest bytes) → Cut (b ∷ bytes) (suc (word_rest bytes))
    by (inl h) = before (omega (arith, h.0)) h.1
    by (inr is) = at_end (ap suc is)

mark_ascii : (b : ℕ) → is_mark b ≡ true → b < 128
mark_ascii b h = grind (arith, nat_tests)

pair_ascii : (b c : ℕ) → is_pair b c ≡ true → (0 < c) × (c < 128)
pair_ascii b c h = grind (arith, nat_tests)

pub front_cuts : (b : ℕ) (bytes : List ℕ) → Cuts (b ∷ bytes) (front_of b bytes)
front_cuts b bytes =
    choice (b ∷ bytes) (starts_number b bytes) _ _
    (λ e. let k = (front_fits b bytes).fits token.Number (number_len (b ∷ bytes)) (ap (λ t. cond {A = Front} t (Some (token.Number, number_len (b ∷ bytes))) (others)) e) in
    this_long (b ∷ bytes) token.Number (number_len (b ∷ bytes)) (behind k.0 k.1 (number_ascii (b ∷ bytes) (number_len (b ∷ bytes) - 1) (omega (arith, k.0)))))
    (λ _. choice (b ∷ bytes) (nat_eq b 34) _ _ (λ e. of_kind_cuts (b ∷ bytes) token.Text 1 (quoted_len 34 bytes) (λ n h. quote_cut 34 1 n bytes (b ∷ bytes) (omega arith) refl (omega arith) h))
    (λ _. choice (b ∷ bytes) (nat_eq b 39) _ _ (λ e. of_kind_cuts (b ∷ bytes) token.Quoted 1 (quoted_len 39 bytes) (λ n h. quote_cut 39 1 n bytes (b ∷ bytes) (omega arith) refl (omega arith) h))
    (λ _. choice (b ∷ bytes) (opens_name b (first bytes)) _ _ (λ e. dollar bytes (both (nat_eq b 36) (nat_eq (first bytes) 39) e).1)
    (λ _. choice (b ∷ bytes) (nat_eq b 35) _ _ (λ e. of_kind_cuts (b ∷ bytes) token.Fault 0 (fault_len (b ∷ bytes)) (λ n h. subst (Cut (b ∷ bytes)) (let z : n ≡ 0 + n = omega arith in z) (faults_cut (b ∷ bytes) n h)))
    (λ _. choice (b ∷ bytes) (starts_word b) _ _ (λ e. this_long (b ∷ bytes) token.Word (suc (word_rest bytes)) (word_cut b bytes))
    (λ _. choice (b ∷ bytes) (is_pair b (first bytes)) _ _ (λ e. pair bytes e)
    (λ _. choice (b ∷ bytes) (is_mark b) _ _ (λ e. this_long (b ∷ bytes) token.Mark 1 (behind (omega arith) (omega arith) (mark_ascii b e))) (λ _. no_front (b ∷ bytes)))))))))
  where
    others : Front
    others =
        if nat_eq b 34 then of_kind token.Text 1 (quoted_len 34 bytes)
        else if nat_eq b 39 then of_kind token.Quoted 1 (quoted_len 39 bytes)
        else if opens_name b (first bytes) then of_kind token.Quoted 2 (quoted_len 39 (drop 1 bytes))
        else if nat_eq b 35 then of_kind token.Fault 0 (fault_len (b ∷ bytes))
        else if starts_word b then Some (token.Word, suc (word_rest bytes))
        else if is_pair b (first bytes) then Some (token.Mark, 2)
        else if is_mark b then Some (token.Mark, 1)
        else None

    dollar : (bytes : List ℕ) → nat_eq (first bytes) 39 ≡ true → Cuts (b ∷ bytes) (of_kind token.Quoted 2 (quoted_len 39 (drop 1 bytes)))
    dollar [] e = absurd cc
    dollar (c ∷ rest) e = of_kind_cuts (b ∷ c ∷ rest) token.Quoted 2 (quoted_len 39 rest) (λ n h. quote_cut 39 2 n rest (b ∷ c ∷ rest) (omega arith) refl (omega arith) h)

    pair : (bytes : List ℕ) → is_pair b (first bytes) ≡ true → Cuts (b ∷ bytes) (Some (token.Mark, 2))
    pair [] e = absurd (let k = pair_ascii b 0 e in omega (arith, k.0))
    pair (c ∷ rest) e = this_long (b ∷ c ∷ rest) token.Mark 2 (behind (omega arith) (omega arith) (pair_ascii b c e).1)

-- ---- the symbols of a text

-- the symbols are pieces of the text, in order from a byte on
pub record Pieces (text : List ℕ) (from : ℕ) (ss : List Symbol) : Type 0 where
  pub all : All (IsInText text) ss
  pub order : InOrder from ss

byte_at : (text : List ℕ) (at b : ℕ) (bytes : List ℕ) → b ∷ bytes ≡ drop at text → get_or text at 0 ≡ b
byte_at text at b bytes is = let z : at + 0 ≡ at = omega arith in ap (λ i. get_or text i 0) (sym z) ∙ sym (get_or-drop at text 0 0) ∙ ap (λ (c : List ℕ). get_or c 0 0) (sym is)

blank_ascii : (b : ℕ) → is_blank b ≡ true → b < 128
blank_ascii b h = grind (arith, nat_tests)

next : (b : ℕ) (rest text : List ℕ) (at : ℕ) → b ∷ rest ≡ drop at text → rest ≡ drop (suc at) text
next b rest text at is = let e : drop 1 (b ∷ rest) ≡ drop 1 (drop at text) = ap (drop 1) is in e ∙ drop-drop 1 at text ∙ ap (λ n. drop n text) (add-one at)

pieces_from : (text bytes : List ℕ) (at : ℕ) (ts : List Token) → IsUtf8 text → at ≤ length text → bytes ≡ drop at text → IsCharBoundary text at → Tokens at bytes ts → Pieces text at (symbols_of text ts)
pieces_from text bytes at ts utf8 within is here ends = record { all = All-nil (IsInText text); order = tt }
pieces_from text bytes at ts utf8 within is here (blank {b = b} {bytes = rest} blank_b others) =
    let short : at < length text = omega (arith, ap length is, length-drop at text) in
    let ascii : get_or text at 0 < 128 = subst (λ x. x < 128) (sym (byte_at text at b rest is)) (blank_ascii b blank_b) in
    let there = subst (IsCharBoundary text) (add-one at) (IsCharBoundary-after_ascii text at utf8 short ascii) in
    let r = pieces_from text rest (suc at) ts utf8 (omega arith) (next b rest text at is) there others in
    record { all = r.all; order = earlier (symbols_of text ts) r.order }
  where
    earlier : (ss : List Symbol) → InOrder (suc at) ss → InOrder at ss
    earlier [] h = tt
    earlier (s ∷ ss) h = (omega (arith, h.0), h.1)
pieces_from text bytes at ts utf8 within is here (begins {b = b} {bytes = rest} {ts = others} kind len no_blank is_front behind_it) =
    let fits = (front_fits b rest).fits kind len is_front in
    let cut = subst (λ c. Cut c len) is ((front_cuts b rest).cuts kind len is_front) in
    let end = cut_boundary text at len utf8 within cut in
    let room : at + len ≤ length text = omega (arith, fits.1, ap length is, length-drop at text) in
    let r = pieces_from text (drop len (b ∷ rest)) (at + len) others utf8 room (ap (drop len) is ∙ drop-drop len at text) end behind_it in
    record {
      all = All-cons (IsInText text) _ (symbols_of text others) (record { some = omega (arith, fits.0); within = room; first = here; last = end }) r.all;
      order = (omega arith, r.order);
    }

-- so are those of its tokens
pub pieces : (text : List ℕ) (ts : List Token) → IsUtf8 text → Tokens 0 text ts → Pieces text 0 (symbols_of text ts)
pieces text ts utf8 h = pieces_from text text 0 ts utf8 (omega arith) refl (IsCharBoundary-start text utf8) h
