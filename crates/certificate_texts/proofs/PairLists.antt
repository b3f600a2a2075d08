-- Reading multipliers, each with its row behind a space, one by one.
use Rattle.std.proofs.Common.{◌≡◌, ◌≢◌, ◌∙◌, ℕ, zero, suc, ◌+◌, ◌^◌, ◌<◌, Bool, true, false, cond, List, [], ◌∷◌, ◌++◌, length, length-append, replicate, None, refl, sym, ap, ap₂, subst, append_assoc, append-nil, arith}
use Rattle.std.proofs.lemmas.List.{length-replicate, same_from_push}
use Rattle.std.specs.List.{AllByRecursion}
use Rattle.fractions.specs.Rational.{ℚ, zero_ℚ, eq_ℚ}
use Rattle.fractions.proofs.Order.{eq_iff}
use Rattle.frac128.specs.Narrow.{IsNarrow}
use Rattle.frac128.proofs.NarrowLaws.{narrow-zero}
use Rattle.certificate_lines.specs.Cutting.{Lacks, Starts}
use Rattle.certificate_lines.specs.Line.{pair_text, pair_words, spaced}
use Rattle.certificate_lines.proofs.Cuts.{cut_start, none_there, tails, all-append, all-back}
use Rattle.certificate_lines.proofs.Words.{EndsWell, is_zero, lacks-32, pair_word, same_pair, spaced-starts}
use Rattle.certificate_texts.specs.Lists.{AreRows, IsPair, NextPair, OnePair}
use Rattle.certificate_texts.proofs.NumberLists.{spaced-append}

-- ---- the words of pairs
pair_words-zero : (k : ℕ) (ys : List ℚ) → pair_words k (zero_ℚ ∷ ys) ≡ pair_words (suc k) ys
pair_words-zero k ys = ap (λ t. cond t (pair_words (suc k) ys) (pair_text k zero_ℚ ∷ pair_words (suc k) ys)) ((eq_iff zero_ℚ zero_ℚ).1 refl)

pair_words-some : (k : ℕ) (y : ℚ) (ys : List ℚ) → y ≢ zero_ℚ → pair_words k (y ∷ ys) ≡ pair_text k y ∷ pair_words (suc k) ys
pair_words-some k y ys n = by_test (eq_ℚ y zero_ℚ) (is_zero y)
  where
    by_test : (t : Bool) → (t ≡ true → y ≡ zero_ℚ) → cond t (pair_words (suc k) ys) (pair_text k y ∷ pair_words (suc k) ys) ≡ pair_text k y ∷ pair_words (suc k) ys
    by_test true h = absurd (n (h refl))
    by_test false h = refl

pair_words-zeros : (n k : ℕ) (ys : List ℚ) → pair_words k (replicate n zero_ℚ ++ ys) ≡ pair_words (k + n) ys
pair_words-zeros zero k ys = let e : k ≡ k + 0 = omega arith in ap (λ m. pair_words m ys) e
pair_words-zeros (suc n) k ys =
    let e : suc k + n ≡ k + suc n = omega arith in
    pair_words-zero k (replicate n zero_ℚ ++ ys) ∙ pair_words-zeros n (suc k) ys ∙ ap (λ m. pair_words m ys) e

words_joined : (k : ℕ) (x : ℚ) (xs ys : List ℚ) (t : Bool) → cond t (pair_words (suc k) xs ++ pair_words (suc k + length xs) ys) (pair_text k x ∷ (pair_words (suc k) xs ++ pair_words (suc k + length xs) ys))
    ≡ cond t (pair_words (suc k) xs) (pair_text k x ∷ pair_words (suc k) xs) ++ pair_words (suc k + length xs) ys
words_joined k x xs ys true = refl
words_joined k x xs ys false = refl

pair_words-append : (k : ℕ) (xs ys : List ℚ) → pair_words k (xs ++ ys) ≡ pair_words k xs ++ pair_words (k + length xs) ys
pair_words-append k [] ys = let e : k ≡ k + 0 = omega arith in ap (λ m. pair_words m ys) e
pair_words-append k (x ∷ xs) ys =
    let e : suc k + length xs ≡ k + suc (length xs) = omega arith in
    ap (λ r. cond (eq_ℚ x zero_ℚ) r (pair_text k x ∷ r)) (pair_words-append (suc k) xs ys)
    ∙ words_joined k x xs ys (eq_ℚ x zero_ℚ)
    ∙ ap (λ m. pair_words k (x ∷ xs) ++ pair_words m ys) e

-- ---- the first number that isn't 0
record FirstPair (k : ℕ) (ys : List ℚ) : Type 0 where
  zeros : ℕ
  number : ℚ
  later : List ℚ
  is : ys ≡ replicate zeros zero_ℚ ++ (number ∷ later)
  other : number ≢ zero_ℚ
  words : pair_words k ys ≡ pair_text (k + zeros) number ∷ pair_words (suc (k + zeros)) later

data Front (k : ℕ) (ys : List ℚ) : Type 0 where
  nothing : ys ≡ [] → Front k ys
  first : FirstPair k ys → Front k ys

front_none : (k : ℕ) (y : ℚ) (ys : List ℚ) → y ≢ zero_ℚ → FirstPair k (y ∷ ys)
front_none k y ys n =
    let e : k ≡ k + 0 = omega arith in
    record { zeros = 0; number = y; later = ys; is = refl; other = n; words = pair_words-some k y ys n ∙ ap (λ m. pair_text m y ∷ pair_words (suc m) ys) e }

front_more : (k : ℕ) (y : ℚ) (ys : List ℚ) → y ≡ zero_ℚ → EndsWell (y ∷ ys) → Front (suc k) ys → FirstPair k (y ∷ ys)
front_more k y ys z w (nothing e) = absurd (w [] (ap₂ (λ a b. a ∷ b) z e))
front_more k y ys z w (first f) =
    let e : suc k + f.zeros ≡ k + suc f.zeros = omega arith in
    record {
      zeros = suc f.zeros;
      number = f.number;
      later = f.later;
      is = ap₂ (λ a b. a ∷ b) z f.is;
      other = f.other;
      words = ap (λ a. pair_words k (a ∷ ys)) z ∙ pair_words-zero k ys ∙ f.words ∙ ap (λ m. pair_text m f.number ∷ pair_words (suc m) f.later) e;
    }

ends_behind : (xs ys : List ℚ) → EndsWell (xs ++ ys) → EndsWell ys
ends_behind xs ys w zs e = w (xs ++ zs) (ap (λ r. xs ++ r) e ∙ sym (append_assoc xs zs (zero_ℚ ∷ [])))

front_of : (k : ℕ) (ys : List ℚ) → EndsWell ys → Front k ys
front_of k [] w = nothing refl
front_of k (y ∷ ys) w = first (by_test (eq_ℚ y zero_ℚ) (is_zero y) (λ e. (eq_iff y zero_ℚ).1 e) (front_of (suc k) ys (ends_behind (y ∷ []) ys w)))
  where
    by_test : (t : Bool) → (t ≡ true → y ≡ zero_ℚ) → (y ≡ zero_ℚ → t ≡ true) → Front (suc k) ys → FirstPair k (y ∷ ys)
    by_test true h g f = front_more k y ys (h refl) w f
    by_test false h g f = front_none k y ys (λ e. let q = g e in absurd (cc q))

-- ---- the pair that is cut in front of a text
pub record PairFront (most : ℕ) (old more : List ℚ) (word rest : List ℕ) : Type 0 where
  pub zeros : ℕ
  pub number : ℚ
  pub later : List ℚ
  pub is : more ≡ replicate zeros zero_ℚ ++ (number ∷ later)
  pub pair : IsPair most (suc (length old) + zeros) number
  pub word_is : word ≡ pair_text (suc (length old) + zeros) number
  pub rest_is : rest ≡ spaced (pair_words (suc (suc (length old) + zeros)) later)

few_pair : (most : ℕ) (old : List ℚ) (n : ℕ) (y : ℚ) (later more : List ℚ) → AreRows most (old ++ more) → more ≡ replicate n zero_ℚ ++ (y ∷ later) → y ≢ zero_ℚ → IsPair most (suc (length old) + n) y
few_pair most old n y later more r e o =
    let all : AllByRecursion IsNarrow (replicate n zero_ℚ ++ (y ∷ later)) = subst (AllByRecursion IsNarrow) e (all-back IsNarrow old more r.are.narrow) in
    let whole : length (old ++ more) ≡ length old + length more = length-append old more in
    let part : length more ≡ length (replicate n zero_ℚ) + suc (length later) = ap length e ∙ length-append (replicate n zero_ℚ) (y ∷ later) in
    let count : length (replicate n zero_ℚ) ≡ n = length-replicate n zero_ℚ in
    let few = r.few in
    record { counted = omega arith; row = omega arith; narrow = (all-back IsNarrow (replicate n zero_ℚ) (y ∷ later) all).0; other = o }

pair_lacks : (most k : ℕ) (y : ℚ) → most < 2 ^ 64 → IsPair most k y → Lacks 32 (pair_text k y)
pair_lacks most k y m p = let row = p.row in lacks-32 (pair_text k y) (pair_word k y (omega (arith, m, row)) p.narrow)

pub pair_front : (most : ℕ) (old more : List ℚ) (text word rest : List ℕ) → most < 2 ^ 64 → text ≡ 32 ∷ (word ++ rest) → Lacks 32 word → Starts 32 rest
    → AreRows most (old ++ more) → text ≡ spaced (pair_words (suc (length old)) more) → PairFront most old more word rest
pair_front most old more text word rest m j l s r e = by_front (front_of (suc (length old)) more (ends_behind old more r.are.last))
  where
    by_front : Front (suc (length old)) more → PairFront most old more word rest
    by_front (nothing q) = none_there 32 (word ++ rest) (sym j ∙ e ∙ ap (λ x. spaced (pair_words (suc (length old)) x)) q)
    by_front (first f) =
        let p = few_pair most old f.zeros f.number f.later more r f.is f.other in
        let c = cut_start 32 word (pair_text (suc (length old) + f.zeros) f.number) rest (spaced (pair_words (suc (suc (length old) + f.zeros)) f.later)) l (pair_lacks most _ f.number m p) s
        (spaced-starts (pair_words (suc (suc (length old) + f.zeros)) f.later)) (tails _ _ _ _ (sym j ∙ e ∙ ap spaced f.words)) in
        record { zeros = f.zeros; number = f.number; later = f.later; is = f.is; pair = p; word_is = c.front; rest_is = c.back }

-- no text that isn't empty is that of no numbers
pub some_more : (k : ℕ) (more : List ℚ) (text : List ℕ) → text ≢ [] → text ≡ spaced (pair_words k more) → more ≢ []
some_more k more text n e q = n (e ∙ ap (λ x. spaced (pair_words k x)) q)

pub same_row : (most k m : ℕ) (y z : ℚ) → most < 2 ^ 64 → IsPair most k y → IsPair most m z → pair_text k y ≡ pair_text m z → (k ≡ m) × (y ≡ z)
same_row most k m y z l p q e =
    let a = p.row in
    let b = q.row in
    same_pair k m y z (omega (arith, l, a)) (omega (arith, l, b)) p.narrow q.narrow e

-- ---- how far pairs are read
pub record MorePairs (old : List ℚ) (rest : List ℕ) (ys : List ℚ) : Type 0 where
  pub more : List ℚ
  pub is : ys ≡ old ++ more
  pub rest_is : rest ≡ spaced (pair_words (suc (length old)) more)

pub record FarPairs (most : ℕ) (text : List ℕ) (old : List ℚ) (rest : List ℕ) : Type 0 where
  pub are : AreRows most old
  pub joined : text ≡ spaced (pair_words 1 old) ++ rest
  pub starts : Starts 32 rest
  pub only : (ys : List ℚ) → AreRows most ys → text ≡ spaced (pair_words 1 ys) → MorePairs old rest ys

no_rows : (most : ℕ) → AreRows most []
no_rows most = record { are = record { narrow = tt; last = λ zs e. not_none zs e; few = omega arith }; few = omega arith }
  where
    not_none : (zs : List ℚ) → [] ≡ zs ++ (zero_ℚ ∷ []) → ⊥
    not_none [] e = none_there _ _ (sym e)
    not_none (z ∷ zs) e = none_there _ _ (sym e)

pub pairs_start : (most : ℕ) (text : List ℕ) → Starts 32 text → FarPairs most text [] text
pairs_start most text s = record { are = no_rows most; joined = refl; starts = s; only = λ ys h e. record { more = ys; is = refl; rest_is = e } }

zeros-narrow : (n : ℕ) → AllByRecursion IsNarrow (replicate n zero_ℚ)
zeros-narrow zero = tt
zeros-narrow (suc n) = (narrow-zero, zeros-narrow n)

longer : (old : List ℚ) (n : ℕ) (y : ℚ) → length (old ++ (replicate n zero_ℚ ++ (y ∷ []))) ≡ suc (length old) + n
longer old n y =
    let a : length (old ++ (replicate n zero_ℚ ++ (y ∷ []))) ≡ length old + length (replicate n zero_ℚ ++ (y ∷ [])) = length-append old (replicate n zero_ℚ ++ (y ∷ [])) in
    let b : length (replicate n zero_ℚ ++ (y ∷ [])) ≡ length (replicate n zero_ℚ) + 1 = length-append (replicate n zero_ℚ) (y ∷ []) in
    let d : length (replicate n zero_ℚ) ≡ n = length-replicate n zero_ℚ in
    omega arith

rows_next : (most : ℕ) (old : List ℚ) (n : ℕ) (y : ℚ) → most < 2 ^ 64 → AreRows most old → IsPair most (suc (length old) + n) y → AreRows most (old ++ (replicate n zero_ℚ ++ (y ∷ [])))
rows_next most old n y m r p =
    let few = p.row in
    let size = longer old n y in
    record {
      are = record {
        narrow = all-append IsNarrow old _ r.are.narrow (all-append IsNarrow (replicate n zero_ℚ) (y ∷ []) (zeros-narrow n) (p.narrow, tt));
        last = λ zs e. p.other (same_from_push (old ++ replicate n zero_ℚ) zs y zero_ℚ (append_assoc old (replicate n zero_ℚ) (y ∷ []) ∙ e)).1;
        few = omega (arith, m, few, size);
      };
      few = omega (arith, few, size);
    }

words_next : (old : List ℚ) (n : ℕ) (y : ℚ) → y ≢ zero_ℚ → pair_words 1 (old ++ (replicate n zero_ℚ ++ (y ∷ []))) ≡ pair_words 1 old ++ (pair_text (suc (length old) + n) y ∷ [])
words_next old n y o =
    let e : 1 + length old ≡ suc (length old) = omega arith in
    pair_words-append 1 old (replicate n zero_ℚ ++ (y ∷ []))
    ∙ ap (λ m. pair_words 1 old ++ pair_words m (replicate n zero_ℚ ++ (y ∷ []))) e
    ∙ ap (λ r. pair_words 1 old ++ r) (pair_words-zeros n (suc (length old)) (y ∷ []) ∙ pair_words-some (suc (length old) + n) y [] o)

text_next : (old : List ℚ) (n : ℕ) (y : ℚ) (behind : List ℕ) → y ≢ zero_ℚ
    → spaced (pair_words 1 old) ++ (32 ∷ (pair_text (suc (length old) + n) y ++ behind)) ≡ spaced (pair_words 1 (old ++ (replicate n zero_ℚ ++ (y ∷ [])))) ++ behind
text_next old n y behind o =
    ap (λ r. spaced (pair_words 1 old) ++ (32 ∷ (r ++ behind))) (sym (append-nil (pair_text (suc (length old) + n) y)))
    ∙ sym (append_assoc (spaced (pair_words 1 old)) (32 ∷ (pair_text (suc (length old) + n) y ++ [])) behind)
    ∙ ap (λ r. r ++ behind) (sym (spaced-append (pair_words 1 old) (pair_text (suc (length old) + n) y ∷ [])) ∙ ap spaced (sym (words_next old n y o)))

pairs_on : (most : ℕ) (old : List ℚ) (rest : List ℕ) (n : ℕ) (y : ℚ) (behind : List ℕ) (ys : List ℚ) → most < 2 ^ 64 → IsPair most (suc (length old) + n) y
    → rest ≡ 32 ∷ (pair_text (suc (length old) + n) y ++ behind) → Starts 32 behind → AreRows most ys → MorePairs old rest ys
    → MorePairs (old ++ (replicate n zero_ℚ ++ (y ∷ []))) behind ys
pairs_on most old rest n y behind ys m p j s r more =
    let f = pair_front most old more.more rest (pair_text (suc (length old) + n) y) behind m j (pair_lacks most _ y m p) s (subst (AreRows most) more.is r) more.rest_is in
    let q = same_row most (suc (length old) + n) (suc (length old) + f.zeros) y f.number m p f.pair f.word_is in
    let row = q.0 in
    let zeros : f.zeros ≡ n = omega (arith, row) in
    let size : suc (suc (length old) + f.zeros) ≡ suc (length (old ++ (replicate n zero_ℚ ++ (y ∷ [])))) = let l = longer old n y in omega (arith, l, zeros) in
    record {
      more = f.later;
      is = more.is ∙ ap (λ x. old ++ x) (f.is ∙ ap₂ (λ z x. replicate z zero_ℚ ++ (x ∷ f.later)) zeros (sym q.1) ∙ sym (append_assoc (replicate n zero_ℚ) (y ∷ []) f.later))
          ∙ sym (append_assoc old (replicate n zero_ℚ ++ (y ∷ [])) f.later);
      rest_is = f.rest_is ∙ ap (λ k. spaced (pair_words k f.later)) size;
    }

pub pairs_next : (most : ℕ) (text : List ℕ) (old : List ℚ) (rest : List ℕ) (new : List ℚ) (behind : List ℕ) → most < 2 ^ 64 → FarPairs most text old rest → OnePair most old rest new behind → FarPairs most text new behind
pairs_next most text old rest new behind m f o =
    subst (λ x. FarPairs most text x behind) (sym o.added) (record {
      are = rows_next most old o.zeros o.number m f.are o.pair;
      joined = f.joined ∙ ap (λ r. spaced (pair_words 1 old) ++ r) o.joined ∙ text_next old o.zeros o.number behind o.pair.other;
      starts = o.starts;
      only = λ ys h e. pairs_on most old rest o.zeros o.number behind ys m o.pair o.joined o.starts h (f.only ys h e);
    })

pub pairs_none : (most : ℕ) (text : List ℕ) (old : List ℚ) (rest : List ℕ) (new : List ℚ) → FarPairs most text old rest → NextPair most old rest new None
    → (ys : List ℚ) → AreRows most ys → text ≢ spaced (pair_words 1 ys)
pairs_none most text old rest new f n ys h e = let m = f.only ys h e in n m.more (subst (AreRows most) m.is h) m.rest_is

pub pairs_end : (most : ℕ) (text : List ℕ) (old : List ℚ) (rest : List ℕ) → FarPairs most text old rest → rest ≡ [] → AreRows most old × (text ≡ spaced (pair_words 1 old))
pairs_end most text old rest f e = (f.are, f.joined ∙ ap (λ r. spaced (pair_words 1 old) ++ r) e ∙ append-nil (spaced (pair_words 1 old)))

pub pair_shorter : (most : ℕ) (old : List ℚ) (text : List ℕ) (new : List ℚ) (rest : List ℕ) → OnePair most old text new rest → length rest < length text
pair_shorter most old text new rest o =
    let a : length text ≡ suc (length (pair_text (suc (length old) + o.zeros) o.number ++ rest)) = ap length o.joined in
    let b = length-append (pair_text (suc (length old) + o.zeros) o.number) rest in
    omega (arith, a, b)
