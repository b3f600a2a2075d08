-- Tokens one behind the other.
use Rattle.std.proofs.Common.{◌≡◌, ℕ, suc, ◌+◌, false, List, [], ◌∷◌, ◌++◌, length, drop, Some, sym, ap, subst, ◌∙◌, arith}
use Rattle.std.proofs.Math.Seq.{drop-append_seam}
use Rattle.formula_lexer.specs.declared.token.TokenKind.{TokenKind}
use Rattle.formula_lexer.specs.declared.token.Token.{Token}
use Rattle.formula_lexer.specs.Front.{front, is_blank}
use Rattle.formula_lexer.specs.Tokens.{Tokens, token, ends, blank, begins}
use Rattle.formula_lexer.proofs.Slices.{front_fits}
use Rattle.text_laws.specs.FrontTokens.{IsCutInto, TokensAreLongest, ended, behind_blank, next}
use Rattle.text_laws.proofs.Found.{cut_stands}
use Rattle.text_laws.proofs.Longest.{cut_is_longest, longest_is_cut}

-- the token in front and what stands behind it, where those are cut as they are to be
put_in_front : (at : ℕ) (text : List ℕ) (ts : List Token) (k : TokenKind) (len b : ℕ) (others behind : List ℕ) → is_blank b ≡ false → text ≡ b ∷ (others ++ behind) → suc (length others) ≡ len
    → front text ≡ Some (k, len) → IsCutInto (at + len) (drop len text) ts → IsCutInto at text (token k at len ∷ ts)
put_in_front at text ts k len b others behind is parts size found rest =
    let cut : front ((b ∷ others) ++ behind) ≡ Some (k, suc (length others)) = ap front (sym parts) ∙ found ∙ ap (λ n. Some (k, n)) (sym size) in
    let left : drop len text ≡ behind = ap (λ n. drop n text) (sym size) ∙ ap (drop (suc (length others))) parts ∙ drop-append_seam (b ∷ others) behind in
    let later : IsCutInto (at + suc (length others)) behind ts = subst (λ n. IsCutInto (at + n) behind ts) (sym size) (subst (λ t. IsCutInto (at + len) t ts) left rest) in
    subst (λ n. IsCutInto at text (token k at n ∷ ts)) size
    (subst (λ t. IsCutInto at t (token k at (suc (length others)) ∷ ts)) (sym parts) (next k is (cut_is_longest k (b ∷ others) behind cut) later))

first_of : (at b : ℕ) (bytes : List ℕ) (ts : List Token) (k : TokenKind) (len : ℕ) (token_is behind : List ℕ) → is_blank b ≡ false → b ∷ bytes ≡ token_is ++ behind → length token_is ≡ len
    → front (b ∷ bytes) ≡ Some (k, len) → IsCutInto (at + len) (drop len (b ∷ bytes)) ts → IsCutInto at (b ∷ bytes) (token k at len ∷ ts)
first_of at b bytes ts k len [] behind is parts size found rest = absurd (let fits = (front_fits b bytes).fits k len found in let some = fits.0 in omega (arith, some, size))
first_of at b bytes ts k len (c ∷ others) behind is parts size found rest =
    let same : b ≡ c = cc in
    put_in_front at (b ∷ bytes) ts k len c others behind (ap is_blank (sym same) ∙ is) parts size found rest

cut_longest : {at : ℕ} {text : List ℕ} {ts : List Token} → Tokens at text ts → IsCutInto at text ts
cut_longest ends = ended
cut_longest (blank is rest) = behind_blank is (cut_longest rest)
cut_longest (begins {at} {b} {bytes} {ts} k len is found rest) =
    let f = cut_stands (b ∷ bytes) k len found in
    first_of at b bytes ts k len f.token f.behind is f.parts f.size found (cut_longest rest)

longest_cut : {at : ℕ} {text : List ℕ} {ts : List Token} → IsCutInto at text ts → Tokens at text ts
longest_cut ended = ends
longest_cut (behind_blank is rest) = blank is (longest_cut rest)
longest_cut (next {at} {b} {others} {behind} {ts} k is l rest) =
    begins k (suc (length others)) is (longest_is_cut k (b ∷ others) behind l)
    (subst (λ t. Tokens (at + suc (length others)) t ts) (sym (drop-append_seam (b ∷ others) behind)) (longest_cut rest))

pub tokens_longest : TokensAreLongest
tokens_longest at text ts = (cut_longest, longest_cut)
