-- The token that is cut is the longest.
use Rattle.std.proofs.Common.{◌≡◌, ℕ, suc, ◌+◌, ◌≤◌, Bool, true, false, cond, eqb, List, [], ◌∷◌, ◌++◌, length, take, drop, Option, Some, None, refl, sym, ap, subst, ◌∙◌, inl, inr, arith}
use Rattle.std.specs.Prelude.{◌&&◌, ◌||◌}
use Rattle.std.specs.List.{list_all}
use Rattle.std.proofs.lemmas.Bool.{and_parts, cond-true, eqb-true}
use Rattle.std.proofs.lemmas.List.{take_at}
use Rattle.std.proofs.Math.Seq.{drop-append_seam}
use Rattle.cell_refs.specs.declared.error_kind.ErrorKind.{ErrorKind}
use Rattle.cell_refs.specs.declared.error_kind.ErrorKind.TheVariants as error
use Rattle.cell_refs.specs.ErrorText.{error_text}
use Rattle.frac128.specs.Numeral.{point_first, absent}
use Rattle.formula_lexer.specs.Front.{Front, first, front, continues_word, is_digit, is_mark, is_pair, number_len, of_kind, quoted_len, starts_number, starts_word, word_rest}
use Rattle.formula_lexer.specs.declared.token.TokenKind.{TokenKind}
use Rattle.formula_lexer.specs.declared.token.TokenKind.TheVariants as kind
use Rattle.text_laws.specs.FrontTokens.{IsToken, IsLongest, IsNumber, IsQuoted, LongestIsCut, NoneIsCut, begins, ends, fault, has_name, quoted, number, text, name, dollar_name, word, pair, mark}
use Rattle.text_laws.proofs.Found.{cut_stands}
use Rattle.text_laws.proofs.Marks.{begins_word, mark_is, pair_first}
use Rattle.text_laws.proofs.Numbers.{number_least, number_starts, passing_digit}
use Rattle.text_laws.proofs.Quotes.{body, quote_found}
use Rattle.text_laws.proofs.Words.{opens_none, word_least}

-- a token is cut that is no shorter, and of the same kind where it is as long
record IsCut (k : TokenKind) (n : ℕ) (bytes : List ℕ) : Type 0 where
  pub kind : TokenKind
  pub len : ℕ
  pub is : front bytes ≡ Some (kind, len)
  pub least : n ≤ len
  pub same : len ≡ n → kind ≡ k

at_least : (k : TokenKind) (n m : ℕ) (bytes : List ℕ) → front bytes ≡ Some (k, m) → n ≤ m → IsCut k n bytes
at_least k n m bytes is h = record { kind = k; len = m; is = is; least = h; same = λ e. refl }

exactly : (k : TokenKind) (n m : ℕ) (bytes : List ℕ) → front bytes ≡ Some (k, m) → m ≡ n → IsCut k n bytes
exactly k n m bytes is e = at_least k n m bytes is (omega (arith, e))

-- a choice behind tests that fail
behind_six : {A : Type 0} (a b c d e f : Bool) (p q r s t u v : A) → a ≡ false → b ≡ false → c ≡ false → d ≡ false → e ≡ false → f ≡ false
    → cond a p (cond b q (cond c r (cond d s (cond e t (cond f u v))))) ≡ v
behind_six a b c d e f p q r s t u v h i j k l m = rw (h, i, j, k, l, m) refl

at_sixth : {A : Type 0} (a b c d e f : Bool) (p q r s t u v : A) → a ≡ false → b ≡ false → c ≡ false → d ≡ false → e ≡ false → f ≡ true
    → cond a p (cond b q (cond c r (cond d s (cond e t (cond f u v))))) ≡ u
at_sixth a b c d e f p q r s t u v h i j k l m = rw (h, i, j, k, l, m) refl

-- ---- numbers

number_front : (b : ℕ) (bytes : List ℕ) → starts_number b bytes ≡ true → front (b ∷ bytes) ≡ Some (kind.Number, number_len (b ∷ bytes))
number_front b bytes e = cond-true (starts_number b bytes) _ _ e

number_is_cut : (token behind : List ℕ) → IsNumber token → IsCut kind.Number (length token) (token ++ behind)
number_is_cut token behind n =
    let s = number_starts token n in
    let is : front (token ++ behind) ≡ Some (kind.Number, number_len (token ++ behind)) =
    subst (λ (t : List ℕ). front (t ++ behind) ≡ Some (kind.Number, number_len (t ++ behind))) (sym s.are) (number_front s.front (s.others ++ behind) (s.starts behind)) in
    at_least kind.Number (length token) (number_len (token ++ behind)) (token ++ behind) is (number_least token behind n)

-- ---- quotes

in_kind : (k : TokenKind) (start n : ℕ) (o : Option ℕ) → o ≡ Some n → of_kind k start o ≡ Some (k, start + n)
in_kind k start n o e = ap (of_kind k start) e

text_is_cut : {token : List ℕ} → IsQuoted 34 token → (behind : List ℕ) → begins 34 behind ≡ false → IsCut kind.Text (length token) (token ++ behind)
text_is_cut (quoted content) behind e =
    let n = length (body 34 content) in
    exactly kind.Text (suc n) (1 + n) (34 ∷ (body 34 content ++ behind)) (in_kind kind.Text 1 n (quoted_len 34 (body 34 content ++ behind)) (quote_found 34 content behind e)) (omega arith)

name_is_cut : {token : List ℕ} → IsQuoted 39 token → (behind : List ℕ) → begins 39 behind ≡ false → IsCut kind.Quoted (length token) (token ++ behind)
name_is_cut (quoted content) behind e =
    let n = length (body 39 content) in
    exactly kind.Quoted (suc n) (1 + n) (39 ∷ (body 39 content ++ behind)) (in_kind kind.Quoted 1 n (quoted_len 39 (body 39 content ++ behind)) (quote_found 39 content behind e)) (omega arith)

dollar_is_cut : {token : List ℕ} → IsQuoted 39 token → (behind : List ℕ) → begins 39 behind ≡ false → IsCut kind.Quoted (suc (length token)) (36 ∷ (token ++ behind))
dollar_is_cut (quoted content) behind e =
    let n = length (body 39 content) in
    exactly kind.Quoted (suc (suc n)) (2 + n) (36 ∷ 39 ∷ (body 39 content ++ behind)) (in_kind kind.Quoted 2 n (quoted_len 39 (body 39 content ++ behind)) (quote_found 39 content behind e)) (omega arith)

-- ---- errors, words and marks

fault_is_cut : (k : ErrorKind) (behind : List ℕ) → has_name k ≡ true → IsCut kind.Fault (length (error_text k)) (error_text k ++ behind)
fault_is_cut error.Div0 behind h = exactly kind.Fault 7 7 (error_text error.Div0 ++ behind) refl refl
fault_is_cut error.Value behind h = exactly kind.Fault 7 7 (error_text error.Value ++ behind) refl refl
fault_is_cut error.Ref behind h = exactly kind.Fault 5 5 (error_text error.Ref ++ behind) refl refl
fault_is_cut error.Num behind h = exactly kind.Fault 5 5 (error_text error.Num ++ behind) refl refl
fault_is_cut error.NotAvailable behind h = exactly kind.Fault 4 4 (error_text error.NotAvailable ++ behind) refl refl
fault_is_cut error.Circular behind h = absurd cc
fault_is_cut error.Malformed behind h = absurd cc

no_number : (b : ℕ) (bytes : List ℕ) → is_digit b ≡ false → eqb b 46 ≡ false → starts_number b bytes ≡ false
no_number b bytes e f = ap (λ t. t || (eqb b 46 && is_digit (first bytes))) e ∙ ap (λ t. t && is_digit (first bytes)) f

word_is_cut : (b : ℕ) (others behind : List ℕ) → starts_word b ≡ true → list_all continues_word others ≡ true → (ends 36 (b ∷ others) && begins 39 behind) ≡ false
    → IsCut kind.Word (suc (length others)) (b ∷ (others ++ behind))
word_is_cut b others behind is all ended =
    let w = begins_word b is in
    let bytes = others ++ behind in
    let more = word_least b others behind all ended in
    let found : front (b ∷ bytes) ≡ Some (kind.Word, suc (word_rest bytes)) =
    at_sixth _ _ _ _ _ _ _ _ _ _ _ _ _ (no_number b bytes w.no_digit w.no_point) w.no_text w.no_quote (opens_none b others behind all ended) w.no_fault is in
    at_least kind.Word (suc (length others)) (suc (word_rest bytes)) (b ∷ bytes) found (omega (arith, more))

pair_is_cut : (b c : ℕ) (behind : List ℕ) → is_pair b c ≡ true → IsCut kind.Mark 2 (b ∷ c ∷ behind)
pair_is_cut b c behind is = elim (pair_first b c is) [
  | inl e ↦ below b e is
  | inr e ↦ above b e is
]
  where
    below : (b : ℕ) → b ≡ 60 → is_pair b c ≡ true → IsCut kind.Mark 2 (b ∷ c ∷ behind)
    below b e h = subst (λ (n : ℕ). IsCut kind.Mark 2 (n ∷ c ∷ behind)) (sym e) (exactly kind.Mark 2 2 (60 ∷ c ∷ behind) (cond-true (is_pair 60 c) _ _ (ap (λ n. is_pair n c) (sym e) ∙ h)) refl)

    above : (b : ℕ) → b ≡ 62 → is_pair b c ≡ true → IsCut kind.Mark 2 (b ∷ c ∷ behind)
    above b e h = subst (λ (n : ℕ). IsCut kind.Mark 2 (n ∷ c ∷ behind)) (sym e) (exactly kind.Mark 2 2 (62 ∷ c ∷ behind) (cond-true (is_pair 62 c) _ _ (ap (λ n. is_pair n c) (sym e) ∙ h)) refl)

-- a point and a digit are a number
point_digit : (d : ℕ) → is_digit d ≡ true → IsNumber (46 ∷ d ∷ [])
point_digit d h = record { mantissa = 46 ∷ d ∷ []; exponent = []; before = []; behind = d ∷ []; power = _; joined = refl; mantissa_is = point_first (d ∷ []) (omega arith, (passing_digit d h, tt)); exponent_is = absent }

point_long : (behind : List ℕ) → is_digit (first behind) ≡ true → 2 ≤ number_len (46 ∷ behind)
point_long [] h = absurd cc
point_long (d ∷ behind) h = number_least (46 ∷ d ∷ []) behind (point_digit d h)

-- the mark that begins with this byte
abbrev marks : ℕ → List ℕ → Front
marks b behind = cond (is_pair b (first behind)) (Some (kind.Mark, 2)) (cond (is_mark b) (Some (kind.Mark, 1)) None)

mark_is_cut : (b : ℕ) (behind : List ℕ) → is_mark b ≡ true → IsCut kind.Mark 1 (b ∷ behind)
mark_is_cut b behind is = by (eqb b 46 && is_digit (first behind)) refl (is_pair b (first behind)) refl
  where
    no_token : starts_number b behind ≡ false → front (b ∷ behind) ≡ marks b behind
    no_token e = let m = mark_is b is in behind_six _ _ _ _ _ _ _ _ _ _ _ _ _ e m.no_text m.no_quote (ap (λ t. t && eqb (first behind) 39) m.no_dollar) m.no_fault m.no_word

    none : (t : Bool) → (eqb b 46 && is_digit (first behind)) ≡ t → starts_number b behind ≡ t
    none t e = ap (λ u. u || (eqb b 46 && is_digit (first behind))) (mark_is b is).no_digit ∙ e

    point : (b : ℕ) → eqb b 46 ≡ true → is_digit (first behind) ≡ true → 2 ≤ number_len (b ∷ behind)
    point b e h = subst (λ (n : ℕ). 2 ≤ number_len (n ∷ behind)) (sym (eqb-true b 46 e)) (point_long behind h)

    by : (t : Bool) → (eqb b 46 && is_digit (first behind)) ≡ t → (u : Bool) → is_pair b (first behind) ≡ u → IsCut kind.Mark 1 (b ∷ behind)
    by true e u f =
        let p = and_parts (eqb b 46) (is_digit (first behind)) e in
        let long = point b p.0 p.1 in
        record { kind = kind.Number; len = number_len (b ∷ behind); is = number_front b behind (none true e); least = omega (arith, long); same = λ h. absurd (omega (arith, long, h)) }
    by false e true f = at_least kind.Mark 1 2 (b ∷ behind) (no_token (none false e) ∙ ap (λ t. cond t (Some (kind.Mark, 2)) (cond (is_mark b) (Some (kind.Mark, 1)) None)) f) (omega arith)
    by false e false f = exactly kind.Mark 1 1 (b ∷ behind) (no_token (none false e) ∙ ap (λ t. cond t (Some (kind.Mark, 2)) (cond (is_mark b) (Some (kind.Mark, 1)) None)) f ∙ ap (λ t. cond t (Some (kind.Mark, 1)) None) is) refl

-- ---- all kinds

stands_is_cut : {k : TokenKind} {token behind : List ℕ} → IsToken k token behind → IsCut k (length token) (token ++ behind)
stands_is_cut (number {token} {behind} n) = number_is_cut token behind n
stands_is_cut (text {behind = behind} q e) = text_is_cut q behind e
stands_is_cut (name {behind = behind} q e) = name_is_cut q behind e
stands_is_cut (dollar_name {behind = behind} q e) = dollar_is_cut q behind e
stands_is_cut (fault {behind} k h) = fault_is_cut k behind h
stands_is_cut (word {b} {others} {behind} is all ended) = word_is_cut b others behind is all ended
stands_is_cut (pair {b} {c} {behind} is) = pair_is_cut b c behind is
stands_is_cut (mark {b} {behind} is) = mark_is_cut b behind is

length_of : Option (TokenKind × ℕ) → ℕ
length_of None = 0
length_of (Some f) = f.1

same_length : (j k : TokenKind) (n m : ℕ) → ◌≡◌ {A = Front} (Some (j, n)) (Some (k, m)) → n ≡ m
unfolding length_of
same_length j k n m e = ap length_of e

-- the parts of a text are the same where the first is as long
record SameParts (a b c d : List ℕ) : Type 0 where
  pub first : a ≡ c
  pub second : b ≡ d

same_parts : (a b c d : List ℕ) → a ++ b ≡ c ++ d → length c ≡ length a → SameParts a b c d
same_parts a b c d e size = record {
  first = sym (take_at a b (length a) refl) ∙ ap (take (length a)) e ∙ take_at c d (length a) size;
  second = sym (drop-append_seam a b) ∙ ap (drop (length a)) e ∙ ap (λ n. drop n (c ++ d)) (sym size) ∙ drop-append_seam c d;
}

pub cut_is_longest : (k : TokenKind) (token behind : List ℕ) → front (token ++ behind) ≡ Some (k, length token) → IsLongest k token behind
cut_is_longest k token behind e =
    let f = cut_stands (token ++ behind) k (length token) e in
    let s = same_parts token behind f.token f.behind f.parts f.size in
    record {
      stands = subst (λ a. IsToken k a behind) (sym s.first) (subst (IsToken k f.token) (sym s.second) f.stands);
      longest = λ j other rest is h.
          let c = stands_is_cut h in
          let n = same_length c.kind k c.len (length token) (sym c.is ∙ ap front is ∙ e) in
          let l = c.least in omega (arith, l, n);
    }

pub longest_is_cut : (k : TokenKind) (token behind : List ℕ) → IsLongest k token behind → front (token ++ behind) ≡ Some (k, length token)
longest_is_cut k token behind l =
    let c = stands_is_cut l.stands in
    let f = cut_stands (token ++ behind) c.kind c.len c.is in
    let most = l.longest c.kind f.token f.behind (sym f.parts) f.stands in
    let same : c.len ≡ length token = let size = f.size in let least = c.least in omega (arith, most, size, least) in
    c.is ∙ ap (λ j. Some (j, c.len)) (c.same same) ∙ ap (λ n. Some (k, n)) same

pub longest : LongestIsCut
longest k token behind = (cut_is_longest k token behind, longest_is_cut k token behind)

pub none : NoneIsCut
none bytes = (λ e k token behind is h. let c = stands_is_cut h in let z : ◌≡◌ {A = Front} (Some (c.kind, c.len)) None = sym c.is ∙ ap front is ∙ e in absurd cc, by (front bytes) refl)
  where
    by : (f : Front) → front bytes ≡ f → ((k : TokenKind) (token behind : List ℕ) → token ++ behind ≡ bytes → IsToken k token behind → ⊥) → f ≡ None
    by None e h = refl
    by (Some (k, len)) e h = let c = cut_stands bytes k len e in absurd (h k c.token c.behind (sym c.parts) c.stands)
