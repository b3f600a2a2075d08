-- The tokens of an equals sign, digits, a slash and digits.
use Rattle.std.proofs.Common.{◌≡◌, ℕ, suc, ◌+◌, ◌<◌, Bool, true, false, cond, eqb, List, [], ◌∷◌, ◌++◌, length, drop, Some, refl, sym, ap, subst, ◌∙◌, arith}
use Rattle.std.specs.Prelude.{◌&&◌, ◌||◌}
use Rattle.std.specs.Char.{digit_value}
use Rattle.std.specs.List.{prefix_len}
use Rattle.std.specs.Str.Parse.{AllDigits, IsNumeral}
use Rattle.std.proofs.Math.Seq.{drop-append_seam}
use Rattle.std.proofs.lemmas.Bool.Decides.{nat_tests}
use Rattle.std.proofs.lemmas.List.Folds.{length-prefix_len}
use Rattle.std.proofs.lemmas.Str.Parse.{digit_from_value}
use Rattle.formula_lexer.specs.declared.token.TokenKind.TheVariants as kind
use Rattle.formula_lexer.specs.declared.token.Token.{Token}
use Rattle.formula_lexer.specs.Front.{digits, exponent, first, fraction, front, is_blank, is_digit, mantissa, number_len, starts_number}
use Rattle.formula_lexer.specs.Tokens.{token, Tokens, ends, begins}

passes : {A : Type 0} (t : Bool) (x y : A) → t ≡ true → cond t x y ≡ x
passes t x y e = ap (λ u. cond u x y) e

-- ---- digits
digit_passes : (d : ℕ) → digit_value d < 10 → is_digit d ≡ true
digit_passes d h = let r = digit_from_value d h in grind (arith, nat_tests)

no_blank : (d : ℕ) → digit_value d < 10 → is_blank d ≡ false
no_blank d h = let r = digit_from_value d h in grind (arith, nat_tests)

len_is : (bytes : List ℕ) → digits bytes ≡ prefix_len is_digit bytes
len_is bytes = length-prefix_len is_digit bytes

one_more : (b : ℕ) (bytes : List ℕ) → is_digit b ≡ true → digits (b ∷ bytes) ≡ suc (digits bytes)
one_more b bytes e = len_is (b ∷ bytes) ∙ ap (λ t. cond t (1 + prefix_len is_digit bytes) 0) e ∙ (let k = len_is bytes in omega arith)

digits_more : (ds rest : List ℕ) → AllDigits 10 ds → digits (ds ++ rest) ≡ length ds + digits rest
digits_more [] rest h = omega arith
digits_more (d ∷ ds) rest h = let e = one_more d (ds ++ rest) (digit_passes d h.0) in let k = digits_more ds rest h.1 in omega arith

-- what ends a number: its end, or a slash
pub record Ends (rest : List ℕ) : Type 0 where
  pub no_digit : digits rest ≡ 0
  pub no_point : fraction rest ≡ 0
  pub no_mark : exponent rest ≡ 0

pub at_end : Ends []
at_end = record { no_digit = refl; no_point = refl; no_mark = refl }

pub at_slash : (rest : List ℕ) → Ends (47 ∷ rest)
at_slash rest = record { no_digit = len_is (47 ∷ rest); no_point = refl; no_mark = refl }

number_long : (ds rest : List ℕ) → AllDigits 10 ds → Ends rest → number_len (ds ++ rest) ≡ length ds
number_long ds rest h e =
    let text = ds ++ rest in
    let more = digits_more ds rest h in
    let none = e.no_digit in
    let whole : digits text ≡ length ds = omega (arith, more, none) in
    let left : drop (digits text) text ≡ rest = ap (λ n. drop n text) whole ∙ drop-append_seam ds rest in
    let point : fraction (drop (digits text) text) ≡ 0 = ap fraction left ∙ e.no_point in
    let long : mantissa text ≡ length ds = omega (arith, whole, point) in
    let behind : exponent (drop (mantissa text) text) ≡ 0 = ap exponent (ap (λ n. drop n text) long ∙ drop-append_seam ds rest) ∙ e.no_mark in
    omega (arith, long, behind)

-- digits are cut as a number
number_front : (d : ℕ) (ds rest : List ℕ) → AllDigits 10 (d ∷ ds) → Ends rest → front (d ∷ (ds ++ rest)) ≡ Some (kind.Number, length (d ∷ ds))
number_front d ds rest h e =
    passes (starts_number d (ds ++ rest)) (Some (kind.Number, number_len (d ∷ (ds ++ rest)))) _ (ap (λ t. t || (eqb d 46 && is_digit (first (ds ++ rest)))) (digit_passes d h.0))
    ∙ ap (λ n. Some (kind.Number, n)) (number_long (d ∷ ds) rest h e)

pub number_begins : (at : ℕ) (ds rest : List ℕ) (ts : List Token) → IsNumeral 10 ds → Ends rest → Tokens (at + length ds) rest ts → Tokens at (ds ++ rest) (token kind.Number at (length ds) ∷ ts)
number_begins at [] rest ts h e behind = absurd (omega (arith, h.0))
number_begins at (d ∷ ds) rest ts h e behind =
    begins kind.Number (length (d ∷ ds)) (no_blank d h.1.0) (number_front d ds rest h.1 e)
    (subst (λ b. Tokens (at + length (d ∷ ds)) b ts) (sym (drop-append_seam (d ∷ ds) rest)) behind)

-- ---- marks
no_pair : (t : Bool) → ((t && false) || false) ≡ false
no_pair true = refl
no_pair false = refl

equals_front : (bytes : List ℕ) → front (61 ∷ bytes) ≡ Some (kind.Mark, 1)
equals_front bytes = ap (λ t. cond t (Some (kind.Mark, 2)) (Some (kind.Mark, 1))) (no_pair (eqb (first bytes) 61))

minus_front : (bytes : List ℕ) → front (45 ∷ bytes) ≡ Some (kind.Mark, 1)
minus_front bytes = ap (λ t. cond t (Some (kind.Mark, 2)) (Some (kind.Mark, 1))) (no_pair (eqb (first bytes) 61))

slash_front : (bytes : List ℕ) → front (47 ∷ bytes) ≡ Some (kind.Mark, 1)
slash_front bytes = ap (λ t. cond t (Some (kind.Mark, 2)) (Some (kind.Mark, 1))) (no_pair (eqb (first bytes) 61))

pub equals_begins : (at : ℕ) (bytes : List ℕ) (ts : List Token) → Tokens (at + 1) bytes ts → Tokens at (61 ∷ bytes) (token kind.Mark at 1 ∷ ts)
equals_begins at bytes ts h = begins kind.Mark 1 refl (equals_front bytes) h

pub minus_begins : (at : ℕ) (bytes : List ℕ) (ts : List Token) → Tokens (at + 1) bytes ts → Tokens at (45 ∷ bytes) (token kind.Mark at 1 ∷ ts)
minus_begins at bytes ts h = begins kind.Mark 1 refl (minus_front bytes) h

slash_begins : (at : ℕ) (bytes : List ℕ) (ts : List Token) → Tokens (at + 1) bytes ts → Tokens at (47 ∷ bytes) (token kind.Mark at 1 ∷ ts)
slash_begins at bytes ts h = begins kind.Mark 1 refl (slash_front bytes) h

-- ---- a quotient
abbrev pub quotient_bytes : List ℕ → List ℕ → List ℕ
quotient_bytes ds es = ds ++ (47 ∷ es)

abbrev pub quotient_tokens : ℕ → List ℕ → List ℕ → List Token
quotient_tokens at ds es =
    token kind.Number at (length ds) ∷ token kind.Mark (at + length ds) 1 ∷ token kind.Number ((at + length ds) + 1) (length es) ∷ []

append_none : (es : List ℕ) → es ++ [] ≡ es
append_none [] = refl
append_none (e ∷ es) = ap (λ x. e ∷ x) (append_none es)

pub quotient_cut : (at : ℕ) (ds es : List ℕ) → IsNumeral 10 ds → IsNumeral 10 es → Tokens at (quotient_bytes ds es) (quotient_tokens at ds es)
quotient_cut at ds es h k =
    number_begins at ds (47 ∷ es) _ h (at_slash es)
    (slash_begins (at + length ds) es _
    (subst (λ b. Tokens ((at + length ds) + 1) b (token kind.Number ((at + length ds) + 1) (length es) ∷ [])) (append_none es)
    (number_begins ((at + length ds) + 1) es [] [] k at_end ends)))
