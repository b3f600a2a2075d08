-- What a row of a dictionary says of the program: with each slack's negated entry as its row's multiplier, the program's combination is known, place by place.
use Rattle.std.proofs.Common.{◌≡◌, ℕ, suc, ◌+◌, ◌<◌, refl, sym, ap, ap₂, ◌∙◌, List, [], ◌∷◌, ◌++◌, length, get_or, map, drop, arith}
use Rattle.std.specs.List.{range_with_len}
use Rattle.std.proofs.lemmas.List.{get_or-map, length-map, get_or_append_left, get_or-append-add, ext_get_or, get_or-drop}
use Rattle.std.proofs.lemmas.List.FromFn.{length-range_with_len, get_or-range_with_len, get_or-map-range_with_len, length-map-range_with_len}
use Rattle.fractions.specs.Rational.{ℚ, ◌+ℚ◌, ◌-ℚ◌, ◌*ℚ◌, neg_ℚ, zero_ℚ, one_ℚ}
use Rattle.fractions.specs.Vectors.{dot, at, plus, times, only}
use Rattle.fractions.specs.Rows.{Row, combined, combined_bound}
use Rattle.fractions.proofs.Laws.{zero-add, mul-zero, mul-one}
use Rattle.fractions.proofs.Vectors.{dot-plus, dot-times, dot-nil, dot-only}
use Rattle.fractions.proofs.Quote.{quotes, by_ring, by_equation}
use Rattle.linear_programs.specs.Program.{Program}
use Rattle.dictionaries.specs.Dictionary.{value_of, Solves, first_row, first_of_program}
use Rattle.linear_programs.proofs.Vectors.{dot_agree, dot-append, agree_everywhere, at-plus, at-times}

-- ---- a row over its columns, as a row over all variables
abbrev pub spread : List ℕ → List ℚ → List ℚ
spread [] es = []
spread (c ∷ cs) [] = []
spread (c ∷ cs) (e ∷ es) = plus (only c e) (spread cs es)

dot-spread : (cs : List ℕ) (es x : List ℚ) → dot (spread cs es) x ≡ dot es (map (at x) cs)
dot-spread [] es x = sym (dot-nil es)
dot-spread (c ∷ cs) [] x = refl
dot-spread (c ∷ cs) (e ∷ es) x = dot-plus (only c e) (spread cs es) x ∙ ap₂ ◌+ℚ◌ (dot-only c e x) (dot-spread cs es x)

-- ---- the point of given columns, with the slacks that the rows leave
abbrev pub slacks : List Row → List ℚ → List ℚ
slacks rows z = map (λ r. r.bound -ℚ dot r.coefficients z) rows

abbrev pub all_of : Program → List ℚ → List ℚ
all_of p z = zero_ℚ ∷ (z ++ slacks p.rows z)

pub columns_are : (z s : List ℚ) → map (at (zero_ℚ ∷ (z ++ s))) (range_with_len 1 (length z)) ≡ z
columns_are z s =
    ext_get_or zero_ℚ _ z (length-map-range_with_len _ 1 (length z)) (λ i h. each i (rw length-map-range_with_len at h))
  where
    each : (i : ℕ) → i < length z → get_or (map (at (zero_ℚ ∷ (z ++ s))) (range_with_len 1 (length z))) i zero_ℚ ≡ get_or z i zero_ℚ
    each i h = get_or-map-range_with_len (at (zero_ℚ ∷ (z ++ s))) 1 (length z) i (suc i) zero_ℚ h (omega arith) ∙ get_or_append_left z s zero_ℚ i h

-- what a row of the first dictionary is at such a point
value_first : (t z s : List ℚ) → value_of t (range_with_len 0 (suc (length z))) (at (zero_ℚ ∷ (z ++ s))) ≡ at t 0 +ℚ dot (drop 2 t) z
value_first [] z s = sym (zero-add zero_ℚ)
value_first (a ∷ []) z s = ap (λ t. t +ℚ zero_ℚ) (mul-one a)
value_first (a ∷ b ∷ t) z s =
    ap₂ ◌+ℚ◌ (mul-one a) (ap₂ ◌+ℚ◌ (mul-zero b) (ap (dot t) (columns_are z s)) ∙ zero-add _)

pub no_row : Row
no_row = record { coefficients = []; bound = zero_ℚ }

slack_is : (r : Row) (z s : List ℚ) → r.bound -ℚ dot r.coefficients z ≡ value_of (first_row r) (range_with_len 0 (suc (length z))) (at (zero_ℚ ∷ (z ++ s)))
slack_is r z s =
    by_ring (r.bound ∷ dot r.coefficients z ∷ []) (search quotes depth 20) (search quotes depth 20) refl
    ∙ ap (λ t. r.bound +ℚ t) (sym (dot-times (neg_ℚ one_ℚ) r.coefficients z)) ∙ sym (value_first (first_row r) z s)

pub first_solved : (p : Program) (z : List ℚ) → length z ≡ length p.objective → Solves (first_of_program p) (at (all_of p z))
first_solved p z e i h =
    let l : i < length p.rows = rw length-range_with_len at h in
    let k : suc (length p.objective) + i ≡ suc (length z + i) = omega arith in
    ap (at (all_of p z)) (get_or-range_with_len (suc (length p.objective)) (length p.rows) i 0 l ∙ k)
    ∙ get_or-append-add z (slacks p.rows z) i zero_ℚ
    ∙ get_or-map (λ r. r.bound -ℚ dot r.coefficients z) p.rows i no_row zero_ℚ l
    ∙ slack_is (get_or p.rows i no_row) z (slacks p.rows z)
    ∙ ap₂ (λ n row. value_of row (range_with_len 0 (suc n)) (at (all_of p z))) e (sym (get_or-map first_row p.rows i no_row [] l))

-- the slacks, each times its multiplier
dot-slacks : (y : List ℚ) (rows : List Row) (z : List ℚ) → dot y (slacks rows z) ≡ combined_bound y rows -ℚ dot (combined y rows) z
dot-slacks [] rows z = by_ring [] (search quotes depth 20) (search quotes depth 20) refl
dot-slacks (k ∷ y) [] z = by_ring [] (search quotes depth 20) (search quotes depth 20) refl
dot-slacks (k ∷ y) (r ∷ rows) z =
    by_equation one_ℚ (dot-slacks y rows z)
    (k ∷ r.bound ∷ dot r.coefficients z ∷ dot y (slacks rows z) ∷ combined_bound y rows ∷ dot (combined y rows) z ∷ [])
    (search quotes depth 20) (search quotes depth 20) refl
    ∙ ap (λ t. (k *ℚ r.bound +ℚ combined_bound y rows) -ℚ t)
    (sym (dot-plus (times k r.coefficients) (combined y rows) z ∙ ap (λ t. t +ℚ dot (combined y rows) z) (dot-times k r.coefficients z)))

-- ---- the combination that a row gives
-- y has for each slack its negated entry in the spread row s
abbrev pub Negates : List ℚ → ℕ → ℕ → List ℚ → Type 0
Negates s n m y = (i : ℕ) → i < m → at y i ≡ neg_ℚ (at s (suc n + i))

pub record Combines (p : Program) (s w t y : List ℚ) : Type 0 where
  pub constant : at t 0 +ℚ combined_bound y p.rows ≡ at w 0
  pub entries : (j : ℕ) → j < length p.objective → at t (suc (suc j)) ≡ at s (suc j) +ℚ at (combined y p.rows) j

pub at-drop : (s : List ℚ) (n i : ℕ) → at (drop n s) i ≡ at s (n + i)
at-drop s n i = get_or-drop n s i zero_ℚ

pub value_parts : (w : List ℚ) (columns : List ℕ) (x : ℕ → ℚ) → value_of w columns x ≡ at w 0 +ℚ dot (drop 1 w) (map x columns)
value_parts [] columns x = sym (zero-add zero_ℚ)
value_parts (a ∷ w) columns x = ap (λ t. t +ℚ dot w (map x columns)) (mul-one a)

dot-zero_first : (s x : List ℚ) → dot s (zero_ℚ ∷ x) ≡ dot (drop 1 s) x
dot-zero_first [] x = refl
dot-zero_first (a ∷ s) x = ap (λ t. t +ℚ dot s x) (mul-zero a) ∙ zero-add _

slack_entry : (s y : List ℚ) (n i : ℕ) → at y i ≡ neg_ℚ (at s (suc n + i)) → at (drop n (drop 1 s)) i ≡ at (times (neg_ℚ one_ℚ) y) i
slack_entry s y n i e =
    let k : 1 + (n + i) ≡ suc n + i = omega arith in
    at-drop (drop 1 s) n i ∙ at-drop s 1 (n + i) ∙ ap (at s) k
    ∙ by_ring (at s (suc n + i) ∷ []) {y = neg_ℚ one_ℚ *ℚ neg_ℚ (at s (suc n + i))} (search quotes depth 20) (search quotes depth 20) refl
    ∙ ap (λ t. neg_ℚ one_ℚ *ℚ t) (sym e) ∙ sym (at-times (neg_ℚ one_ℚ) y i)

-- what a row of a dictionary is at such a point
value_row : (p : Program) (columns : List ℕ) (w y z : List ℚ) → length z ≡ length p.objective
    → Negates (spread columns (drop 1 w)) (length p.objective) (length p.rows) y
    → value_of w columns (at (all_of p z)) ≡ at w 0 +ℚ (dot (drop 1 (spread columns (drop 1 w))) z +ℚ neg_ℚ one_ℚ *ℚ (combined_bound y p.rows -ℚ dot (combined y p.rows) z))
value_row p columns w y z e g =
    let s = spread columns (drop 1 w) in
    value_parts w columns (at (all_of p z))
    ∙ ap (λ t. at w 0 +ℚ t)
    (sym (dot-spread columns (drop 1 w) (all_of p z)) ∙ dot-zero_first s (z ++ slacks p.rows z) ∙ dot-append (drop 1 s) z (slacks p.rows z)
    ∙ ap (λ t. dot (drop 1 s) z +ℚ t)
    (ap (λ n. dot (drop n (drop 1 s)) (slacks p.rows z)) e
    ∙ dot_agree _ (times (neg_ℚ one_ℚ) y) (slacks p.rows z) (λ i h. slack_entry s y (length p.objective) i (g i (rw length-map at h)))
    ∙ dot-times (neg_ℚ one_ℚ) y (slacks p.rows z) ∙ ap (λ t. neg_ℚ one_ℚ *ℚ t) (dot-slacks y p.rows z)))

-- a row w of a dictionary, and the row t of the first one, that agree at all solutions
pub row_combines : (p : Program) (columns : List ℕ) (w t y : List ℚ)
    → ((x : ℕ → ℚ) → Solves (first_of_program p) x → value_of w columns x ≡ value_of t (first_of_program p).nonbasic x)
    → Negates (spread columns (drop 1 w)) (length p.objective) (length p.rows) y
    → Combines p (spread columns (drop 1 w)) w t y
row_combines p columns w t y h g =
    let o = agree_everywhere (length p.objective) _ _ _ _ (λ z e. along z e) in
    record { constant = o.constant; entries = λ j l. second t j ∙ o.entries j l ∙ at-plus _ _ j ∙ ap (λ q. q +ℚ at (combined y p.rows) j) (first (spread columns (drop 1 w)) j) }
  where
    second : (t : List ℚ) (j : ℕ) → at t (suc (suc j)) ≡ at (drop 2 t) j
    second [] j = refl
    second (a ∷ []) j = refl
    second (a ∷ b ∷ t) j = refl

    first : (s : List ℚ) (j : ℕ) → at (drop 1 s) j ≡ at s (suc j)
    first [] j = refl
    first (a ∷ s) j = refl

    along : (z : List ℚ) → length z ≡ length p.objective
        → (at t 0 +ℚ combined_bound y p.rows) +ℚ dot (drop 2 t) z ≡ at w 0 +ℚ dot (plus (drop 1 (spread columns (drop 1 w))) (combined y p.rows)) z
    along z e =
        let s = spread columns (drop 1 w) in
        by_equation one_ℚ
        (sym (value_first t z (slacks p.rows z)) ∙ ap (λ n. value_of t (range_with_len 0 (suc n)) (at (all_of p z))) e
        ∙ sym (h (at (all_of p z)) (first_solved p z e)) ∙ value_row p columns w y z e g)
        (at t 0 ∷ combined_bound y p.rows ∷ dot (drop 2 t) z ∷ at w 0 ∷ dot (drop 1 s) z ∷ dot (combined y p.rows) z ∷ [])
        (search quotes depth 20) (search quotes depth 20) refl
        ∙ ap (λ q. at w 0 +ℚ q) (sym (dot-plus (drop 1 s) (combined y p.rows) z))
