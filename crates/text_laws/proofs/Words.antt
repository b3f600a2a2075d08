-- Words.
use Rattle.std.proofs.Common.{◌≡◌, ℕ, suc, ◌≤◌, Bool, true, false, cond, eqb, List, [], ◌∷◌, ◌++◌, length, refl, sym, ap, subst, ◌∙◌, arith}
use Rattle.std.specs.Prelude.{◌&&◌, not}
use Rattle.std.specs.List.{list_all}
use Rattle.std.proofs.lemmas.Bool.{and_parts, and_from, and_right}
use Rattle.std.proofs.lemmas.Bool.Decides.{nat_tests}
use Rattle.formula_lexer.specs.Front.{first, continues_word, opens_name, word_rest}
use Rattle.text_laws.specs.FrontTokens.{begins, ends}

no_quote : (b : ℕ) → continues_word b ≡ true → eqb b 39 ≡ false
no_quote b e = grind (arith, nat_tests)

-- no byte of the word is a dollar sign right before a single quote
pub opens_none : (b : ℕ) (others behind : List ℕ) → list_all continues_word others ≡ true → (ends 36 (b ∷ others) && begins 39 behind) ≡ false → opens_name b (first (others ++ behind)) ≡ false
opens_none b [] [] all e = and_right (eqb b 36) false refl
opens_none b [] (c ∷ behind) all e = e
opens_none b (c ∷ others) behind all e = and_right (eqb b 36) (eqb c 39) (no_quote c (and_parts _ _ all).0)

-- the bytes of the word are part of what is cut
pub word_least : (b : ℕ) (others behind : List ℕ) → list_all continues_word others ≡ true → (ends 36 (b ∷ others) && begins 39 behind) ≡ false → length others ≤ word_rest (others ++ behind)
word_least b [] behind all e = omega arith
word_least b (c ∷ others) behind all e =
    let h = and_parts _ _ all in
    let goes : (continues_word c && not (opens_name c (first (others ++ behind)))) ≡ true = and_from _ _ h.0 (ap not (opens_none c others behind h.1 e)) in
    let more = word_least c others behind h.1 e in
    subst (λ n. suc (length others) ≤ n) (sym (ap (λ t. cond t (suc (word_rest (others ++ behind))) 0) goes)) (omega (arith, more))

-- what is cut behind the first byte of a word
pub record WordCut (b : ℕ) (bytes : List ℕ) : Type 0 where
  pub others : List ℕ
  pub behind : List ℕ
  pub parts : bytes ≡ others ++ behind
  pub size : length others ≡ word_rest bytes
  pub all : list_all continues_word others ≡ true
  pub ended : (ends 36 (b ∷ others) && begins 39 behind) ≡ false

pub word_cut : (b : ℕ) (bytes : List ℕ) → opens_name b (first bytes) ≡ false → WordCut b bytes
word_cut b [] e = record { others = []; behind = []; parts = refl; size = refl; all = refl; ended = and_right (eqb b 36) false refl }
word_cut b (c ∷ bytes) e = by (continues_word c) refl (opens_name c (first bytes)) refl (word_cut c bytes)
  where
    by : (t : Bool) → continues_word c ≡ t → (u : Bool) → opens_name c (first bytes) ≡ u → (opens_name c (first bytes) ≡ false → WordCut c bytes) → WordCut b (c ∷ bytes)
    by true is false closed later =
        let r = later closed in
        let goes : (continues_word c && not (opens_name c (first bytes))) ≡ true = and_from _ _ is (ap not closed) in
        record {
          others = c ∷ r.others;
          behind = r.behind;
          parts = ap (λ x. c ∷ x) r.parts;
          size = ap suc r.size ∙ sym (ap (λ t. cond t (suc (word_rest bytes)) 0) goes);
          all = and_from _ _ is r.all;
          ended = r.ended;
        }
    by true is true opens later =
        let stops : (continues_word c && not (opens_name c (first bytes))) ≡ false = and_right _ _ (ap not opens) in
        record { others = []; behind = c ∷ bytes; parts = refl; size = sym (ap (λ t. cond t (suc (word_rest bytes)) 0) stops); all = refl; ended = e }
    by false is u opens later =
        let stops : (continues_word c && not (opens_name c (first bytes))) ≡ false = ap (λ t. t && not (opens_name c (first bytes))) is in
        record { others = []; behind = c ∷ bytes; parts = refl; size = sym (ap (λ t. cond t (suc (word_rest bytes)) 0) stops); all = refl; ended = e }
