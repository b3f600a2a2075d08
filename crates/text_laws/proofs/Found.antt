-- A token that is cut stands in front.
use Rattle.std.proofs.Common.{◌≡◌, ℕ, suc, ◌+◌, Bool, true, false, eqb, List, [], ◌∷◌, ◌++◌, length, drop, Option, Some, None, if◌then◌else◌, refl, sym, ap, subst, ◌∙◌, arith}
use Rattle.std.specs.Prelude.{◌&&◌, ◌||◌}
use Rattle.std.proofs.lemmas.Bool.{and_parts, eqb-true}
use Rattle.cell_refs.specs.declared.error_kind.ErrorKind.{ErrorKind}
use Rattle.cell_refs.specs.declared.error_kind.ErrorKind.TheVariants as error
use Rattle.cell_refs.specs.ErrorText.{error_text}
use Rattle.formula_lexer.specs.Front.{Front, begins_with, fault_len, first, front, front_of, is_mark, is_pair, number_len, of_kind, opens_name, quoted_len, starts_number, starts_word, word_rest}
use Rattle.formula_lexer.specs.declared.token.TokenKind.{TokenKind}
use Rattle.formula_lexer.specs.declared.token.TokenKind.TheVariants as kind
use Rattle.text_laws.specs.FrontTokens.{IsToken, fault, has_name, quoted}
use Rattle.text_laws.specs.FrontTokens as token
use Rattle.text_laws.proofs.Numbers.{number_cut}
use Rattle.text_laws.proofs.Quotes.{body, quote_is}
use Rattle.text_laws.proofs.Words.{word_cut}

-- a token of this kind and length stands in front
pub record Found (text : List ℕ) (k : TokenKind) (len : ℕ) : Type 0 where
  pub token : List ℕ
  pub behind : List ℕ
  pub parts : text ≡ token ++ behind
  pub size : length token ≡ len
  pub stands : IsToken k token behind

pub record Good (text : List ℕ) (f : Front) : Type 0 where
  pub found : (k : TokenKind) (len : ℕ) → f ≡ Some (k, len) → Found text k len

nothing : (text : List ℕ) → Good text None
nothing text = record { found = λ k len h. absurd cc }

this : (text : List ℕ) (k : TokenKind) (len : ℕ) → Found text k len → Good text (Some (k, len))
this text k len f = record {
  found = λ j n h. let same : ◌≡◌ {A = TokenKind × ℕ} (k, len) (j, n) = cc in subst (λ (t : TokenKind × ℕ). Found text t.0 t.1) same f;
}

of_kind_good : (text : List ℕ) (k : TokenKind) (start : ℕ) (o : Option ℕ) → ((n : ℕ) → o ≡ Some n → Found text k (start + n)) → Good text (of_kind k start o)
of_kind_good text k start None h = nothing text
of_kind_good text k start (Some n) h = this text k (start + n) (h n refl)

choice : (text : List ℕ) (t : Bool) (f g : Front) → (t ≡ true → Good text f) → (t ≡ false → Good text g) → Good text (if t then f else g)
choice text true f g h k = h refl
choice text false f g h k = k refl

-- ---- errors

begins_is : (word bytes : List ℕ) → begins_with word bytes ≡ true → (rest : List ℕ) × (bytes ≡ word ++ rest)
begins_is [] bytes h = (bytes, refl)
begins_is (w ∷ word) [] h = absurd cc
begins_is (w ∷ word) (b ∷ bytes) h =
    let p = and_parts (eqb w b) (begins_with word bytes) h in
    let r = begins_is word bytes p.1 in (r.0, ap (λ c. c ∷ bytes) (sym (eqb-true w b p.0)) ∙ ap (λ c. w ∷ c) r.1)

named : (bytes : List ℕ) (n : ℕ) (k : ErrorKind) → has_name k ≡ true → length (error_text k) ≡ n → begins_with (error_text k) bytes ≡ true → Found bytes kind.Fault n
named bytes n k is size h = let r = begins_is (error_text k) bytes h in record { token = error_text k; behind = r.0; parts = r.1; size = size; stands = fault k is }

fault_found : (bytes : List ℕ) (n : ℕ) → fault_len bytes ≡ Some n → Found bytes kind.Fault n
fault_found bytes n h =
    by (begins_with (error_text error.Div0) bytes) refl (begins_with (error_text error.Value) bytes) refl (begins_with (error_text error.Ref) bytes) refl (begins_with (error_text error.Num) bytes) refl
    (begins_with (error_text error.NotAvailable) bytes) refl h
  where
    by : (a : Bool) → begins_with (error_text error.Div0) bytes ≡ a → (b : Bool) → begins_with (error_text error.Value) bytes ≡ b → (c : Bool) → begins_with (error_text error.Ref) bytes ≡ c
        → (d : Bool) → begins_with (error_text error.Num) bytes ≡ d → (e : Bool) → begins_with (error_text error.NotAvailable) bytes ≡ e
        → (if a then Some 7 else if b then Some 7 else if c then Some 5 else if d then Some 5 else if e then Some 4 else None) ≡ Some n → Found bytes kind.Fault n
    by true p b q c r d s e t h = named bytes n error.Div0 refl (cc) p
    by false p true q c r d s e t h = named bytes n error.Value refl (cc) q
    by false p false q true r d s e t h = named bytes n error.Ref refl (cc) r
    by false p false q false r true s e t h = named bytes n error.Num refl (cc) s
    by false p false q false r false s true t h = named bytes n error.NotAvailable refl (cc) t
    by false p false q false r false s false t h = absurd cc

-- ---- the others

text_found : (b n : ℕ) (bytes : List ℕ) → eqb b 34 ≡ true → quoted_len 34 bytes ≡ Some n → Found (b ∷ bytes) kind.Text (1 + n)
text_found b n bytes is h =
    let c = quote_is 34 n bytes h in
    record {
      token = 34 ∷ body 34 c.content;
      behind = c.rest;
      parts = ap (λ x. x ∷ bytes) (eqb-true b 34 is) ∙ ap (λ x. 34 ∷ x) c.parts;
      size = let s = c.size in omega arith;
      stands = token.text (quoted c.content) c.closes;
    }

name_found : (b n : ℕ) (bytes : List ℕ) → eqb b 39 ≡ true → quoted_len 39 bytes ≡ Some n → Found (b ∷ bytes) kind.Quoted (1 + n)
name_found b n bytes is h =
    let c = quote_is 39 n bytes h in
    record {
      token = 39 ∷ body 39 c.content;
      behind = c.rest;
      parts = ap (λ x. x ∷ bytes) (eqb-true b 39 is) ∙ ap (λ x. 39 ∷ x) c.parts;
      size = let s = c.size in omega arith;
      stands = token.name (quoted c.content) c.closes;
    }

dollar_found : (b d n : ℕ) (bytes : List ℕ) → eqb b 36 ≡ true → eqb d 39 ≡ true → quoted_len 39 bytes ≡ Some n → Found (b ∷ d ∷ bytes) kind.Quoted (2 + n)
dollar_found b d n bytes is quote h =
    let c = quote_is 39 n bytes h in
    record {
      token = 36 ∷ 39 ∷ body 39 c.content;
      behind = c.rest;
      parts = ap (λ x. x ∷ d ∷ bytes) (eqb-true b 36 is) ∙ ap (λ x. 36 ∷ x ∷ bytes) (eqb-true d 39 quote) ∙ ap (λ x. 36 ∷ 39 ∷ x) c.parts;
      size = let s = c.size in omega arith;
      stands = token.dollar_name (quoted c.content) c.closes;
    }

word_found : (b : ℕ) (bytes : List ℕ) → starts_word b ≡ true → opens_name b (first bytes) ≡ false → Found (b ∷ bytes) kind.Word (suc (word_rest bytes))
word_found b bytes is closed =
    let c = word_cut b bytes closed in
    record { token = b ∷ c.others; behind = c.behind; parts = ap (λ x. b ∷ x) c.parts; size = ap suc c.size; stands = token.word is c.all c.ended }

number_found : (b : ℕ) (bytes : List ℕ) → starts_number b bytes ≡ true → Found (b ∷ bytes) kind.Number (number_len (b ∷ bytes))
number_found b bytes is = let c = number_cut b bytes is in record { token = c.token; behind = c.rest; parts = c.parts; size = c.size; stands = token.number c.is }

mark_found : (b : ℕ) (bytes : List ℕ) → is_mark b ≡ true → Found (b ∷ bytes) kind.Mark 1
mark_found b bytes is = record { token = b ∷ []; behind = bytes; parts = refl; size = refl; stands = token.mark is }

no_pair : (t u : Bool) → ((false && (t || u)) || (t && false)) ≡ true → ⊥
no_pair true u h = cc h
no_pair false u h = cc h

front_good : (b : ℕ) (bytes : List ℕ) → Good (b ∷ bytes) (front_of b bytes)
front_good b bytes =
    let text = b ∷ bytes in
    choice text (starts_number b bytes) _ _ (λ e. this text kind.Number (number_len text) (number_found b bytes e)) (λ e1.
    choice text (eqb b 34) _ _ (λ e. of_kind_good text kind.Text 1 (quoted_len 34 bytes) (λ n h. text_found b n bytes e h)) (λ e2.
    choice text (eqb b 39) _ _ (λ e. of_kind_good text kind.Quoted 1 (quoted_len 39 bytes) (λ n h. name_found b n bytes e h)) (λ e3.
    choice text (opens_name b (first bytes)) _ _ (λ e. dollar bytes (and_parts (eqb b 36) (eqb (first bytes) 39) e)) (λ closed.
    choice text (eqb b 35) _ _ (λ e. of_kind_good text kind.Fault 0 (fault_len text) (λ n h. subst (Found text kind.Fault) (let z : n ≡ 0 + n = omega arith in z) (fault_found text n h))) (λ e5.
    choice text (starts_word b) _ _ (λ e. this text kind.Word (suc (word_rest bytes)) (word_found b bytes e closed)) (λ e6.
    choice text (is_pair b (first bytes)) _ _ (λ e. pair bytes e) (λ e7.
    choice text (is_mark b) _ _ (λ e. this text kind.Mark 1 (mark_found b bytes e)) (λ e8. nothing text))))))))
  where
    dollar : (bytes : List ℕ) → (eqb b 36 ≡ true) × (eqb (first bytes) 39 ≡ true) → Good (b ∷ bytes) (of_kind kind.Quoted 2 (quoted_len 39 (drop 1 bytes)))
    dollar [] e = absurd (let h = e.1 in cc)
    dollar (d ∷ rest) e = of_kind_good (b ∷ d ∷ rest) kind.Quoted 2 (quoted_len 39 rest) (λ n h. dollar_found b d n rest e.0 e.1 h)

    pair : (bytes : List ℕ) → is_pair b (first bytes) ≡ true → Good (b ∷ bytes) (Some (kind.Mark, 2))
    pair [] e = absurd (no_pair (eqb b 60) (eqb b 62) e)
    pair (c ∷ rest) e = this (b ∷ c ∷ rest) kind.Mark 2 (record { token = b ∷ c ∷ []; behind = rest; parts = refl; size = refl; stands = token.pair e })

pub cut_stands : (text : List ℕ) (k : TokenKind) (len : ℕ) → front text ≡ Some (k, len) → Found text k len
cut_stands [] k len h = absurd cc
cut_stands (b ∷ bytes) k len h = (front_good b bytes).found k len h
