-- Cutting a text into tokens, from left to right.
use Rattle.std.proofs.Common.{◌≡◌, ℕ, suc, ◌+◌, ◌<◌, ◌≤◌, true, false, cond, eqb, List, [], ◌∷◌, ◌++◌, length, drop, take, get_or, ◌-◌, length-drop, get_or-drop, drop-cons, Option, Some, None, refl, sym, ap, subst, ◌∙◌, append_assoc, arith, ◌⊎◌, inl, inr, add-one}
use Rattle.std.specs.Option.{option_map}
use Rattle.std.proofs.lemmas.List.{append-nil, drop-drop}
use Rattle.std.proofs.Math.ListN.{drop_of_length-le}
use Rattle.std.proofs.lemmas.Grind.{common_steps}
use Rattle.std.proofs.lemmas.Bool.{ne_eqb, eq-eqb}
use Rattle.formula_lexer.specs.declared.token.TokenKind.{TokenKind}
use Rattle.formula_lexer.specs.declared.token.Token.{Token}
use Rattle.formula_lexer.specs.Front.{is_blank, front, quoted_len}
use Rattle.formula_lexer.specs.Tokens.{token, Tokens, ends, blank, begins, NoToken, here, behind_blank, behind}

-- what completes the tokens from a place on completes all
abbrev pub Completes : List ℕ → List Token → ℕ → Type 0
Completes text so_far at = (ts : List Token) → Tokens at (drop at text) ts → Tokens 0 text (so_far ++ ts)

abbrev pub Passes : List ℕ → ℕ → Type 0
Passes text at = (place : ℕ) → NoToken at (drop at text) place → NoToken 0 text place

pub whole_rest : (bytes : List ℕ) (n : ℕ) → take (length bytes - n) (drop n bytes) ≡ drop n bytes
whole_rest bytes n = grind (arith, common_steps)

-- ---- quotes

shift : (at k : ℕ) (o : Option ℕ) → option_map (λ n. at + n) (option_map (λ n. k + n) o) ≡ option_map (λ n. (at + k) + n) o
shift at k None = refl
shift at k (Some n) = ap Some (omega arith)

other_byte : (q b : ℕ) (bytes : List ℕ) → (b ≡ q → ⊥) → quoted_len q (b ∷ bytes) ≡ option_map (λ n. 1 + n) (quoted_len q bytes)
unfolding quoted_len
other_byte q b [] h = ap (λ t. cond t (Some 1) None) (ne_eqb b q h)
other_byte q b (c ∷ bytes) h = ap (λ t. cond t (cond (eqb c q) (option_map (λ n. 2 + n) (quoted_len q bytes)) (Some 1)) (option_map (λ n. 1 + n) (quoted_len q (c ∷ bytes)))) (ne_eqb b q h)

doubled : (q b c : ℕ) (bytes : List ℕ) → b ≡ q → c ≡ q → quoted_len q (b ∷ c ∷ bytes) ≡ option_map (λ n. 2 + n) (quoted_len q bytes)
unfolding quoted_len
doubled q b c bytes h k =
    ap (λ t. cond t (cond (eqb c q) (option_map (λ n. 2 + n) (quoted_len q bytes)) (Some 1)) (option_map (λ n. 1 + n) (quoted_len q (c ∷ bytes)))) (eq-eqb b q h)
    ∙ ap (λ t. cond t (option_map (λ n. 2 + n) (quoted_len q bytes)) (Some 1)) (eq-eqb c q k)

closing : (q b : ℕ) (bytes : List ℕ) → b ≡ q → (0 < length bytes → get_or bytes 0 0 ≡ q → ⊥) → quoted_len q (b ∷ bytes) ≡ Some 1
unfolding quoted_len
closing q b [] h k = ap (λ t. cond t (Some 1) None) (eq-eqb b q h)
closing q b (c ∷ bytes) h k =
    ap (λ t. cond t (cond (eqb c q) (option_map (λ n. 2 + n) (quoted_len q bytes)) (Some 1)) (option_map (λ n. 1 + n) (quoted_len q (c ∷ bytes)))) (eq-eqb b q h)
    ∙ ap (λ t. cond t (option_map (λ n. 2 + n) (quoted_len q bytes)) (Some 1)) (ne_eqb c q (k (omega arith)))

module _ (q : ℕ) (bytes : List ℕ) (at : ℕ) (total : Option ℕ) (so_far : option_map (λ n. at + n) (quoted_len q (drop at bytes)) ≡ total) where
  pub quote_other : at < length bytes → (get_or bytes at 0 ≡ q → ⊥) → option_map (λ n. (at + 1) + n) (quoted_len q (drop (at + 1) bytes)) ≡ total
  quote_other lt h =
      let split : quoted_len q (drop at bytes) ≡ option_map (λ n. 1 + n) (quoted_len q (drop (suc at) bytes)) = ap (quoted_len q) (drop-cons bytes at 0 lt) ∙ other_byte q (get_or bytes at 0) (drop (suc at) bytes) h in
      let next : quoted_len q (drop (at + 1) bytes) ≡ quoted_len q (drop (suc at) bytes) = ap (λ n. quoted_len q (drop n bytes)) (add-one at) in
      ap (option_map (λ n. (at + 1) + n)) next ∙ sym (shift at 1 (quoted_len q (drop (suc at) bytes))) ∙ sym (ap (option_map (λ n. at + n)) split) ∙ so_far

  pub quote_pair : at + 1 < length bytes → get_or bytes at 0 ≡ q → get_or bytes (at + 1) 0 ≡ q → option_map (λ n. (at + 2) + n) (quoted_len q (drop (at + 2) bytes)) ≡ total
  quote_pair lt h k =
      let one : at + 1 ≡ suc at = add-one at in
      let two : at + 2 ≡ suc (suc at) = omega arith in
      let parts : drop at bytes ≡ get_or bytes at 0 ∷ get_or bytes (suc at) 0 ∷ drop (suc (suc at)) bytes = drop-cons bytes at 0 (omega arith) ∙ ap (λ r. get_or bytes at 0 ∷ r) (drop-cons bytes (suc at) 0 (omega arith)) in
      let split : quoted_len q (drop at bytes) ≡ option_map (λ n. 2 + n) (quoted_len q (drop (suc (suc at)) bytes)) = ap (quoted_len q) parts ∙ doubled q (get_or bytes at 0) (get_or bytes (suc at) 0) (drop (suc (suc at)) bytes) h (ap (λ n. get_or bytes n 0) (sym one) ∙ k) in
      ap (λ m. option_map (λ n. (at + 2) + n) (quoted_len q (drop m bytes))) two ∙ sym (shift at 2 (quoted_len q (drop (suc (suc at)) bytes))) ∙ sym (ap (option_map (λ n. at + n)) split) ∙ so_far

  pub quote_end : at < length bytes → get_or bytes at 0 ≡ q → (at + 1 < length bytes → get_or bytes (at + 1) 0 ≡ q → ⊥) → Some (at + 1) ≡ total
  quote_end lt h k =
      let alone : 0 < length (drop (suc at) bytes) → get_or (drop (suc at) bytes) 0 0 ≡ q → ⊥ = λ some same. k (omega (arith, length-drop (suc at) bytes)) (ap (λ n. get_or bytes n 0) (plus at) ∙ sym (get_or-drop (suc at) bytes 0 0) ∙ same) in
      let split : quoted_len q (drop at bytes) ≡ Some 1 = ap (quoted_len q) (drop-cons bytes at 0 lt) ∙ closing q (get_or bytes at 0) (drop (suc at) bytes) h alone in
      sym (ap (option_map (λ n. at + n)) split) ∙ so_far
    where
      plus : (n : ℕ) → n + 1 ≡ suc n + 0
      plus n = omega arith

  pub quote_none : length bytes ≤ at → None ≡ total
  unfolding quoted_len
  quote_none le = sym (ap (λ r. option_map (λ n. at + n) (quoted_len q r)) (drop_past bytes at le)) ∙ so_far
    where
      drop_past : (bs : List ℕ) (n : ℕ) → length bs ≤ n → drop n bs ≡ []
      drop_past bs n h = drop_of_length-le bs h

-- ---- tokens

module _ (text : List ℕ) (so_far : List Token) (at : ℕ) (completes : Completes text so_far at) (passes : Passes text at) where
  first_byte : at < length text → drop at text ≡ get_or text at 0 ∷ drop (suc at) text
  first_byte lt = drop-cons text at 0 lt

  pub blank_completes : at < length text → is_blank (get_or text at 0) ≡ true → Completes text so_far (at + 1)
  blank_completes lt is ts p = completes ts (subst (λ r. Tokens at r ts) (sym (first_byte lt)) (blank is (subst (λ n. Tokens n (drop n text) ts) (add-one at) p)))

  pub blank_passes : at < length text → is_blank (get_or text at 0) ≡ true → Passes text (at + 1)
  blank_passes lt is place p = passes place (subst (λ r. NoToken at r place) (sym (first_byte lt)) (behind_blank is (subst (λ n. NoToken n (drop n text) place) (add-one at) p)))

  module _ (kind : TokenKind) (len : ℕ) (lt : at < length text) (is : is_blank (get_or text at 0) ≡ false) (found : Some (kind, len) ≡ front (drop at text)) where
    begins_here : front (get_or text at 0 ∷ drop (suc at) text) ≡ Some (kind, len)
    begins_here = sym (found ∙ ap front (first_byte lt))

    later : drop (at + len) text ≡ drop len (get_or text at 0 ∷ drop (suc at) text)
    later = sym (drop-drop len at text) ∙ ap (drop len) (first_byte lt)

    pub token_completes : (others : List Token) → others ≡ so_far ++ token kind at len ∷ [] → Completes text others (at + len)
    token_completes others e ts p =
        subst (Tokens 0 text) (sym (append_assoc so_far (token kind at len ∷ []) ts) ∙ ap (λ o. o ++ ts) (sym e))
        (completes (token kind at len ∷ ts) (subst (λ r. Tokens at r (token kind at len ∷ ts)) (sym (first_byte lt)) (begins kind len is begins_here (subst (λ r. Tokens (at + len) r ts) later p))))

    pub token_passes : Passes text (at + len)
    token_passes place p = passes place (subst (λ r. NoToken at r place) (sym (first_byte lt)) (behind kind len is begins_here (subst (λ r. NoToken (at + len) r place) later p)))

  pub stuck : at < length text → is_blank (get_or text at 0) ≡ false → None ≡ front (drop at text) → NoToken 0 text at
  stuck lt is none = passes at (subst (λ r. NoToken at r at) (sym (first_byte lt)) (here is (sym (none ∙ ap front (first_byte lt)))))

  pub done : length text ≤ at → Tokens 0 text so_far
  done le = subst (Tokens 0 text) (append-nil so_far) (completes [] (subst (λ r. Tokens at r []) (sym (drop_of_length-le text le)) ends))

-- ---- a text has one list of tokens, or a first place without one

ends_only : {at : ℕ} {b : List Token} → Tokens at [] b → [] ≡ b
ends_only ends = refl

-- what begins a list of tokens of a text that isn't empty
FirstIs : ℕ → ℕ → List ℕ → List Token → Type 0
FirstIs at b bytes ts = ((is_blank b ≡ true) × Tokens (suc at) bytes ts)
    ⊎ ((kind : TokenKind) × (len : ℕ) × (others : List Token) × (is_blank b ≡ false) × (front (b ∷ bytes) ≡ Some (kind, len)) × Tokens (at + len) (drop len (b ∷ bytes)) others × (ts ≡ token kind at len ∷ others))

first_is : {at b : ℕ} {bytes : List ℕ} {ts : List Token} → Tokens at (b ∷ bytes) ts → FirstIs at b bytes ts
unfolding FirstIs
first_is (blank is p) = inl (is, p)
first_is (begins {ts = ts} kind len is f p) = inr (kind, len, ts, is, f, p, refl)

pub one_list : {at : ℕ} {text : List ℕ} {a : List Token} → Tokens at text a → (b : List Token) → Tokens at text b → a ≡ b
unfolding FirstIs
one_list ends b q = ends_only q
one_list (blank is p) b q = elim (first_is q) [
  | inl r ↦ one_list p b r.1
  | inr r ↦ absurd (let k = r.3 in cc)
]
one_list (begins {at = at} {b = c} {bytes = bytes} {ts = ts} kind len is f p) b q = elim (first_is q) [
  | inl r ↦ absurd (let k = r.0 in cc)
  | inr r ↦
      let same : ◌≡◌ {A = TokenKind × ℕ} (r.0, r.1) (kind, len) = let e : ◌≡◌ {A = Option (TokenKind × ℕ)} (Some (r.0, r.1)) (Some (kind, len)) = sym r.4 ∙ f in cc in
      let there : Tokens (at + len) (drop len (c ∷ bytes)) r.2 = subst (λ (t : TokenKind × ℕ). Tokens (at + t.1) (drop t.1 (c ∷ bytes)) r.2) same r.5 in
      ap (λ o. token kind at len ∷ o) (one_list p r.2 there) ∙ ap (λ (t : TokenKind × ℕ). token t.0 at t.1 ∷ r.2) (sym same) ∙ sym r.6
]

-- no token begins at a place, so there is no list
pub none_where_stuck : {at : ℕ} {text : List ℕ} {place : ℕ} → NoToken at text place → (a : List Token) → Tokens at text a → ⊥
unfolding FirstIs
none_where_stuck (here is f) a q = elim (first_is q) [
  | inl r ↦ let k = r.0 in cc
  | inr r ↦ let k = r.4 in cc
]
none_where_stuck (behind_blank is p) a q = elim (first_is q) [
  | inl r ↦ none_where_stuck p a r.1
  | inr r ↦ let k = r.3 in cc
]
none_where_stuck (behind {at = at} {b = c} {bytes = bytes} kind len is f p) a q = elim (first_is q) [
  | inl r ↦ let k = r.0 in cc
  | inr r ↦
      let same : ◌≡◌ {A = TokenKind × ℕ} (r.0, r.1) (kind, len) = let e : ◌≡◌ {A = Option (TokenKind × ℕ)} (Some (r.0, r.1)) (Some (kind, len)) = sym r.4 ∙ f in cc in
      none_where_stuck p r.2 (subst (λ (t : TokenKind × ℕ). Tokens (at + t.1) (drop t.1 (c ∷ bytes)) r.2) same r.5)
]
