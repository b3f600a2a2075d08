-- The words of a line, and that no words are those of two lines.
use Rattle.std.proofs.Common.{◌≡◌, ◌≢◌, ◌∙◌, ℕ, suc, ◌+◌, ◌*◌, ◌^◌, ◌<◌, ◌≤◌, Bool, true, false, cond, List, [], ◌∷◌, ◌++◌, length, map, Option, Some, None, refl, sym, ap, ap₂, arith, ℤ, pos, lit<}
use Rattle.std.specs.Prelude.{codes, ltb, IfSome}
use Rattle.std.specs.List.{AllByRecursion, list_all}
use Rattle.std.proofs.lemmas.Bool.{ltb-true, and_parts}
use Rattle.fractions.specs.Rational.{ℚ, zero_ℚ, eq_ℚ}
use Rattle.fractions.specs.Whole.{whole_ℚ}
use Rattle.fractions.proofs.Order.{eq_iff}
use Rattle.frac128.specs.Narrow.{IsNarrow, IsNarrowWhole}
use Rattle.frac128.specs.Printed.{printed}
use Rattle.frac128.proofs.NarrowLaws.{narrow-whole}
use Rattle.certificate_lines.specs.Line.{Line, claim_line, point_line, ray_line, split_line, best_line, empty_line, clash_line, end_line, Said, said_optimal, said_infeasible, said_unbounded, IsLine, IsSaid, AreMultipliers, IsPair, IsSplit, whole_text, pair_text, pair_words, value_words, said_words, first_word, other_words, spaced, line_text}
use Rattle.certificate_lines.specs.Cutting.{Starts, at_once, behind, Lacks}
use Rattle.certificate_lines.proofs.Cuts.{cut, cut_start, all_map, all-append, heads, tails, none_there}
use Rattle.certificate_lines.proofs.Numbers.{NumberByte, number_bytes, printed_one, whole_one}

-- ---- words
-- no blank, tab or line end, nor anything before them
abbrev pub IsWord : List ℕ → Type 0
IsWord w = AllByRecursion (λ b. 32 < b) w

lacks-10 : (w : List ℕ) → IsWord w → Lacks 10 w
lacks-10 w h = all_map (λ b. 32 < b) (λ b. b ≢ 10) (λ b l. omega (arith, l)) w h

pub lacks-32 : (w : List ℕ) → IsWord w → Lacks 32 w
lacks-32 w h = all_map (λ b. 32 < b) (λ b. b ≢ 32) (λ b l. omega (arith, l)) w h

-- a word that is written out
word : (w : List ℕ) → list_all (ltb 32) w ≡ true → IsWord w
word [] e = tt
word (b ∷ w) e = let p = and_parts (ltb 32 b) (list_all (ltb 32) w) e in (ltb-true 32 b p.0, word w p.1)

pub number_word : (x : ℚ) → IsNarrow x → IsWord (printed x)
number_word x h = all_map NumberByte (λ b. 32 < b) (λ b l. omega (arith, l.0)) (printed x) (number_bytes x h)

pub whole_word : (z : ℤ) → IsNarrowWhole z → IsWord (whole_text z)
whole_word z h = number_word (whole_ℚ z) ((narrow-whole z).0 h)

pub whole_lacks : (z : ℤ) → IsNarrowWhole z → Lacks 58 (whole_text z)
whole_lacks z h = all_map NumberByte (λ b. b ≢ 58) (λ b l. omega (arith, l.1)) (whole_text z) (number_bytes (whole_ℚ z) ((narrow-whole z).0 h))

pub pair_word : (k : ℕ) (y : ℚ) → k < 2 ^ 127 → IsNarrow y → IsWord (pair_text k y)
pair_word k y l h = all-append (λ b. 32 < b) (whole_text (pos k)) (58 ∷ printed y) (whole_word (pos k) l) (lit< tt, number_word y h)

pub pair_words-are : (k : ℕ) (ys : List ℚ) → k + length ys ≤ 2 ^ 127 → AllByRecursion IsNarrow ys → AllByRecursion IsWord (pair_words k ys)
pair_words-are k [] l h = tt
pair_words-are k (y ∷ ys) l h = by_test (eq_ℚ y zero_ℚ) (pair_words-are (suc k) ys (omega (arith, l)) h.1)
  where
    by_test : (t : Bool) → AllByRecursion IsWord (pair_words (suc k) ys) → AllByRecursion IsWord (cond t (pair_words (suc k) ys) (pair_text k y ∷ pair_words (suc k) ys))
    by_test true rest = rest
    by_test false rest = (pair_word k y (omega (arith, l)) h.0, rest)

pub numbers-are : (xs : List ℚ) → AllByRecursion IsNarrow xs → AllByRecursion IsWord (map printed xs)
numbers-are [] h = tt
numbers-are (x ∷ xs) h = (number_word x h.0, numbers-are xs h.1)

value-are : (v : Option ℚ) → IfSome v IsNarrow → AllByRecursion IsWord (value_words v)
value-are None h = tt
value-are (Some v) h = (number_word v h, tt)

said-are : (s : Said) → IsSaid s → AllByRecursion IsWord (said_words s)
said-are (said_optimal v) h = (word (codes "optimal") refl, value-are v h)
said-are said_infeasible h = (word (codes "infeasible") refl, tt)
said-are said_unbounded h = (word (codes "unbounded") refl, tt)

pub next_narrow : (j : ℕ) → j < 2 ^ 16 → suc j < 2 ^ 127
next_narrow j h = omega (arith, h)

pub others-are : (l : Line) → IsLine l → AllByRecursion IsWord (other_words l)
others-are (claim_line s) h = said-are s h
others-are (point_line xs) h = numbers-are xs h.narrow
others-are (ray_line xs) h = numbers-are xs h.narrow
others-are (split_line j f) h = (whole_word (pos (suc j)) (next_narrow j h.decision), (whole_word f h.floor, tt))
others-are (best_line ys) h = pair_words-are 1 ys (omega (arith, h.few)) h.narrow
others-are (empty_line ys) h = pair_words-are 1 ys (omega (arith, h.few)) h.narrow
others-are (clash_line i j) h = (whole_word (pos (suc i)) (next_narrow i h.one), (whole_word (pos (suc j)) (next_narrow j h.other), tt))
others-are end_line h = tt

pub first-is : (l : Line) → IsWord (first_word l)
first-is (claim_line s) = word (codes "cert") refl
first-is (point_line xs) = word (codes "point") refl
first-is (ray_line xs) = word (codes "ray") refl
first-is (split_line j f) = word (codes "split") refl
first-is (best_line ys) = word (codes "best") refl
first-is (empty_line ys) = word (codes "empty") refl
first-is (clash_line i j) = word (codes "clash") refl
first-is end_line = word (codes "end") refl

spaced-lacks : (ws : List (List ℕ)) → AllByRecursion IsWord ws → Lacks 10 (spaced ws)
spaced-lacks [] h = tt
spaced-lacks (w ∷ ws) h = (λ e. omega (arith, e), all-append (λ b. b ≢ 10) w (spaced ws) (lacks-10 w h.0) (spaced-lacks ws h.1))

-- a line has no line feed
pub line_lacks : (l : Line) → IsLine l → Lacks 10 (line_text l)
line_lacks l h = all-append (λ b. b ≢ 10) (first_word l) (spaced (other_words l)) (lacks-10 (first_word l) (first-is l)) (spaced-lacks (other_words l) (others-are l h))

-- ---- cutting at spaces
pub spaced-starts : (ws : List (List ℕ)) → Starts 32 (spaced ws)
spaced-starts [] = at_once
spaced-starts (w ∷ ws) = behind (w ++ spaced ws)

same_words : (ws vs : List (List ℕ)) → AllByRecursion IsWord ws → AllByRecursion IsWord vs → spaced ws ≡ spaced vs → ws ≡ vs
same_words [] [] h k e = refl
same_words [] (v ∷ vs) h k e = none_there _ _ (sym e)
same_words (w ∷ ws) [] h k e = none_there _ _ e
same_words (w ∷ ws) (v ∷ vs) h k e =
    let c = cut_start 32 w v (spaced ws) (spaced vs) (lacks-32 w h.0) (lacks-32 v k.0) (spaced-starts ws) (spaced-starts vs) (tails _ _ _ _ e) in
    ap₂ (λ x y. x ∷ y) c.front (same_words ws vs h.1 k.1 c.back)

-- ---- words of one line alone
same_numbers : (xs ys : List ℚ) → AllByRecursion IsNarrow xs → AllByRecursion IsNarrow ys → map printed xs ≡ map printed ys → xs ≡ ys
same_numbers [] [] h k e = refl
same_numbers [] (y ∷ ys) h k e = none_there _ _ (sym e)
same_numbers (x ∷ xs) [] h k e = none_there _ _ e
same_numbers (x ∷ xs) (y ∷ ys) h k e = ap₂ (λ a b. a ∷ b) (printed_one x y h.0 k.0 (heads _ _ _ _ e)) (same_numbers xs ys h.1 k.1 (tails _ _ _ _ e))

-- the last number is not 0
abbrev pub EndsWell : List ℚ → Type 0
EndsWell ys = (zs : List ℚ) → ys ≢ zs ++ (zero_ℚ ∷ [])

pub ends_next : (y : ℚ) (ys : List ℚ) → EndsWell (y ∷ ys) → EndsWell ys
ends_next y ys h zs e = h (y ∷ zs) (ap (λ r. y ∷ r) e)

pub is_zero : (y : ℚ) → eq_ℚ y zero_ℚ ≡ true → y ≡ zero_ℚ
is_zero y e = (eq_iff y zero_ℚ).0 e

has_pair : (k : ℕ) (y : ℚ) (ys : List ℚ) → EndsWell (y ∷ ys) → pair_words k (y ∷ ys) ≡ [] → ⊥
has_pair k y [] h e = by_test (eq_ℚ y zero_ℚ) (is_zero y) e
  where
    by_test : (t : Bool) → (t ≡ true → y ≡ zero_ℚ) → cond t [] (pair_text k y ∷ []) ≡ [] → ⊥
    by_test true q p = h [] (ap (λ r. r ∷ []) (q refl))
    by_test false q p = none_there _ _ p
has_pair k y (z ∷ zs) h e = by_test (eq_ℚ y zero_ℚ) (has_pair (suc k) z zs (ends_next y (z ∷ zs) h)) e
  where
    by_test : (t : Bool) → (pair_words (suc k) (z ∷ zs) ≡ [] → ⊥) → cond t (pair_words (suc k) (z ∷ zs)) (pair_text k y ∷ pair_words (suc k) (z ∷ zs)) ≡ [] → ⊥
    by_test true r p = r p
    by_test false r p = none_there _ _ p

pub same_pair : (k m : ℕ) (y z : ℚ) → k < 2 ^ 127 → m < 2 ^ 127 → IsNarrow y → IsNarrow z → pair_text k y ≡ pair_text m z → (k ≡ m) × (y ≡ z)
same_pair k m y z a b h i e =
    let c = cut 58 (whole_text (pos k)) (whole_text (pos m)) (printed y) (printed z) (whole_lacks (pos k) a) (whole_lacks (pos m) b) e in
    let q : pos k ≡ pos m = whole_one (pos k) (pos m) a b c.front in
    (cc, printed_one y z h i c.back)

-- the rows of the pairs rise
pub later : (m k : ℕ) (ys : List ℚ) (z : ℚ) (rest : List (List ℕ)) → k < m → m + length ys ≤ 2 ^ 127 → AllByRecursion IsNarrow ys → IsNarrow z
    → pair_words m ys ≡ pair_text k z ∷ rest → ⊥
later m k [] z rest l b h i e = none_there _ _ (sym e)
later m k (y ∷ ys) z rest l b h i e = by_test (eq_ℚ y zero_ℚ) (later (suc m) k ys z rest (omega arith) (omega (arith, b)) h.1 i) e
  where
    by_test : (t : Bool) → (pair_words (suc m) ys ≡ pair_text k z ∷ rest → ⊥) → cond t (pair_words (suc m) ys) (pair_text m y ∷ pair_words (suc m) ys) ≡ pair_text k z ∷ rest → ⊥
    by_test true r p = r p
    by_test false r p = let q = same_pair m k y z (omega (arith, b)) (omega (arith, b, l)) h.0 i (heads _ _ _ _ p) in omega (arith, q.0, l)

same_pairs : (k : ℕ) (ys zs : List ℚ) → k + length ys ≤ 2 ^ 127 → k + length zs ≤ 2 ^ 127 → AllByRecursion IsNarrow ys → AllByRecursion IsNarrow zs
    → EndsWell ys → EndsWell zs → pair_words k ys ≡ pair_words k zs → ys ≡ zs
same_pairs k [] [] b c h i v w e = refl
same_pairs k [] (z ∷ zs) b c h i v w e = absurd (has_pair k z zs w (sym e))
same_pairs k (y ∷ ys) [] b c h i v w e = absurd (has_pair k y ys v e)
same_pairs k (y ∷ ys) (z ∷ zs) b c h i v w e =
    by_tests (eq_ℚ y zero_ℚ) (eq_ℚ z zero_ℚ) (is_zero y) (is_zero z) (same_pairs (suc k) ys zs (omega (arith, b)) (omega (arith, c)) h.1 i.1 (ends_next y ys v) (ends_next z zs w)) e
  where
    by_tests : (s t : Bool) → (s ≡ true → y ≡ zero_ℚ) → (t ≡ true → z ≡ zero_ℚ) → (pair_words (suc k) ys ≡ pair_words (suc k) zs → ys ≡ zs)
        → cond s (pair_words (suc k) ys) (pair_text k y ∷ pair_words (suc k) ys) ≡ cond t (pair_words (suc k) zs) (pair_text k z ∷ pair_words (suc k) zs) → y ∷ ys ≡ z ∷ zs
    by_tests true true p q rest r = ap₂ (λ a b. a ∷ b) (p refl ∙ sym (q refl)) (rest r)
    by_tests true false p q rest r = absurd (later (suc k) k ys z _ (omega arith) (omega (arith, b)) h.1 i.0 r)
    by_tests false true p q rest r = absurd (later (suc k) k zs y _ (omega arith) (omega (arith, c)) i.1 h.0 (sym r))
    by_tests false false p q rest r = ap₂ (λ a b. a ∷ b) (same_pair k k y z (omega (arith, b)) (omega (arith, b)) h.0 i.0 (heads _ _ _ _ r)).1 (rest (tails _ _ _ _ r))

same_multipliers : (ys zs : List ℚ) → AreMultipliers ys → AreMultipliers zs → pair_words 1 ys ≡ pair_words 1 zs → ys ≡ zs
same_multipliers ys zs h k e = same_pairs 1 ys zs (omega (arith, h.few)) (omega (arith, k.few)) h.narrow k.narrow h.last k.last e

same_value : (v w : Option ℚ) → IfSome v IsNarrow → IfSome w IsNarrow → value_words v ≡ value_words w → v ≡ w
same_value None None h k e = refl
same_value None (Some w) h k e = none_there _ _ (sym e)
same_value (Some v) None h k e = none_there _ _ e
same_value (Some v) (Some w) h k e = ap Some (printed_one v w h k (heads _ _ _ _ e))

same_said : (s t : Said) → IsSaid s → IsSaid t → said_words s ≡ said_words t → s ≡ t
same_said (said_optimal v) (said_optimal w) h k e = ap said_optimal (same_value v w h k (tails _ _ _ _ e))
same_said said_infeasible said_infeasible h k e = refl
same_said said_unbounded said_unbounded h k e = refl
same_said s t h k e = absurd (cc)

same_split : (i j : ℕ) (f g : ℤ) → IsSplit i f → IsSplit j g → other_words (split_line i f) ≡ other_words (split_line j g) → split_line i f ≡ split_line j g
same_split i j f g h k e =
    let q : pos (suc i) ≡ pos (suc j) = whole_one _ _ (next_narrow i h.decision) (next_narrow j k.decision) (heads _ _ _ _ e) in
    let r : i ≡ j = cc in
    ap₂ split_line r (whole_one f g h.floor k.floor (heads _ _ _ _ (tails _ _ _ _ e)))

same_decision : (i j : ℕ) → i < 2 ^ 16 → j < 2 ^ 16 → whole_text (pos (suc i)) ≡ whole_text (pos (suc j)) → i ≡ j
same_decision i j h k e = let q : pos (suc i) ≡ pos (suc j) = whole_one _ _ (next_narrow i h) (next_narrow j k) e in cc

same_clash : (i j a b : ℕ) → IsPair i j → IsPair a b → other_words (clash_line i j) ≡ other_words (clash_line a b) → clash_line i j ≡ clash_line a b
same_clash i j a b h k e = ap₂ clash_line (same_decision i a h.one k.one (heads _ _ _ _ e)) (same_decision j b h.other k.other (heads _ _ _ _ (tails _ _ _ _ e)))

-- the two first bytes of a word as one number: the lines' first words differ in them
abbrev pub two_bytes : List ℕ → ℕ
two_bytes [] = 0
two_bytes (a ∷ []) = a
two_bytes (a ∷ b ∷ w) = a * 256 + b

by_words : (l m : Line) → IsLine l → IsLine m → first_word l ≡ first_word m → other_words l ≡ other_words m → l ≡ m
by_words (claim_line s) (claim_line t) h k e f = ap claim_line (same_said s t h k f)
by_words (point_line xs) (point_line ys) h k e f = ap point_line (same_numbers xs ys h.narrow k.narrow f)
by_words (ray_line xs) (ray_line ys) h k e f = ap ray_line (same_numbers xs ys h.narrow k.narrow f)
by_words (split_line i f) (split_line j g) h k e p = same_split i j f g h k p
by_words (best_line ys) (best_line zs) h k e f = ap best_line (same_multipliers ys zs h k f)
by_words (empty_line ys) (empty_line zs) h k e f = ap empty_line (same_multipliers ys zs h k f)
by_words (clash_line i j) (clash_line a b) h k e f = same_clash i j a b h k f
by_words end_line end_line h k e f = refl
by_words l m h k e f = let q = ap two_bytes e in absurd (omega (arith, q))

-- no text is that of two lines
pub same_line : (l m : Line) → IsLine l → IsLine m → line_text l ≡ line_text m → l ≡ m
same_line l m h k e =
    let c = cut_start 32 (first_word l) (first_word m) _ _ (lacks-32 _ (first-is l)) (lacks-32 _ (first-is m)) (spaced-starts (other_words l)) (spaced-starts (other_words m)) e in
    by_words l m h k c.front (same_words _ _ (others-are l h) (others-are m k) c.back)
