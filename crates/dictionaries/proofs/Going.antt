-- A run goes on until it has ended, and it ends: the choices of the rule, found by one search.
use Rattle.std.proofs.Common.{◌≡◌, ◌≢◌, ◌⊎◌, inl, inr, ℕ, zero, suc, ◌+◌, ◌<◌, ◌≤◌, refl, sym, ◌∙◌, subst, List, [], length, get_or, arith, IsTrue, Bool, true, false, ◌↔◌}
use Rattle.std.proofs.lemmas.Bool.{cases_eq}
use Rattle.fractions.specs.Rational.{ℚ, ◌*ℚ◌, ◌/ℚ◌, neg_ℚ, ◌≤ℚ◌, ◌<ℚ◌, zero_ℚ}
use Rattle.fractions.specs.Vectors.{at, without}
use Rattle.fractions.proofs.Tests.{le_or_lt}
use Rattle.fractions.proofs.Order.{le_refl, le_trans, le_antisymm, le_of_lt, lt_irrefl, lt_of_lt_of_le, lt_of_le_of_lt, eq_or_ne}
use Rattle.frac128.specs.Narrow.{IsNarrow, IsNarrowSum, is_narrow, is_narrow_sum}
use Rattle.frac128.proofs.NarrowLaws.{narrow_tests}
use Rattle.linear_programs.specs.Program.{Program, IsRegular}
use Rattle.dictionaries.specs.Dictionary.{Dictionary, row_of, pivoted, first_of_program, solved_row, IsFeasible, IsBasic, IsNonBasic, IsDictionaryOf}
use Rattle.dictionaries.specs.Narrow.{IsNarrowQuotient, IsNarrowStep, IsNarrowSolvedRow, IsNarrowSubstituted, IsNarrowPivot, AreNarrow}
use Rattle.dictionaries.specs.Bland.{Improves, IsOptimal, Enters, IsCandidate, ratio_of, Leaves, IsNarrowRatio, HasWideRatio, IsPivotRow, leaves, too_wide, Begins, one, two, IsInPhase, NextPivot, begins, goes_on, IsUnbounded, HasEnded, best, infeasible, unbounded}
use Rattle.dictionaries.specs.Count.{choose}
use Rattle.dictionaries.specs.Run.{Leads, IsReached, RunGoesOn, RunEnds}
use Rattle.dictionaries.proofs.Bases.{at_or, counts_at, none_counts}
use Rattle.dictionaries.proofs.Solutions.{times_in_some}
use Rattle.dictionaries.proofs.PhaseOne.{extra_candidate}
use Rattle.dictionaries.proofs.Runs.{first_on_the_way}
use Rattle.dictionaries.proofs.Reaching.{leads_nowhere, leads_further, reached_on_the_way, reached_below}
use Rattle.dictionaries.proofs.Short.{runs_are_short}

-- ---- the least of those that are chosen from
record IsLeast (n : ℕ) (P : ℕ → Type 0) (R : ℕ → ℕ → Type 0) (b : ℕ) : Type 0 where
  holds : P b
  below : b < n
  least : (k : ℕ) → k < n → P k → R b k

below_or_same : (k n : ℕ) → k < suc n → (k < n) ⊎ (n ≡ k)
below_or_same k n h = grind arith

search_below : (n : ℕ) (P : ℕ → Type 0) (R : ℕ → ℕ → Type 0) → ((k : ℕ) → P k ⊎ ¬ (P k)) → ((a b : ℕ) → R a b ⊎ R b a) → ((a b c : ℕ) → R a b → R b c → R a c)
    → ((b : ℕ) × IsLeast n P R b) ⊎ ((k : ℕ) → k < n → ¬ (P k))
search_below zero P R d t s = inr (λ k h. absurd (omega arith))
search_below (suc n) P R d t s = cases (search_below n P R d t s) (d n)
  where
    self : R n n
    self = elim (t n n) [
      | inl r ↦ r
      | inr r ↦ r
    ]

    old : (b : ℕ) → IsLeast n P R b → (P n → R b n) → IsLeast (suc n) P R b
    old b l f = record {
      holds = l.holds;
      below = let h = l.below in omega arith;
      least = λ k h i. elim (below_or_same k n h) [
        | inl m ↦ l.least k m i
        | inr e ↦ subst (R b) e (f (subst P (sym e) i))
      ];
    }

    new : P n → ((k : ℕ) → k < n → P k → R n k) → IsLeast (suc n) P R n
    new p f = record {
      holds = p;
      below = omega arith;
      least = λ k h i. elim (below_or_same k n h) [
        | inl m ↦ f k m i
        | inr e ↦ subst (R n) e self
      ];
    }

    none : ((k : ℕ) → k < n → ¬ (P k)) → ¬ (P n) → (k : ℕ) → k < suc n → ¬ (P k)
    none f m k h i = elim (below_or_same k n h) [
      | inl l ↦ f k l i
      | inr e ↦ m (subst P (sym e) i)
    ]

    cases : ((b : ℕ) × IsLeast n P R b) ⊎ ((k : ℕ) → k < n → ¬ (P k)) → P n ⊎ ¬ (P n) → ((b : ℕ) × IsLeast (suc n) P R b) ⊎ ((k : ℕ) → k < suc n → ¬ (P k))
    cases (inl l) (inr m) = inl (l.0, old l.0 l.1 (λ i. absurd (m i)))
    cases (inl l) (inl p) = elim (t l.0 n) [
      | inl r ↦ inl (l.0, old l.0 l.1 (λ i. r))
      | inr r ↦ inl (n, new p (λ k h i. s n l.0 k r (l.1.least k h i)))
    ]
    cases (inr f) (inl p) = inl (n, new p (λ k h i. absurd (f k h i)))
    cases (inr f) (inr m) = inr (none f m)

-- ---- by number, and by a value and then the number
abbrev ByNumber : (ℕ → ℕ) → ℕ → ℕ → Type 0
ByNumber g a b = g a ≤ g b

number_total : (g : ℕ → ℕ) (a b : ℕ) → ByNumber g a b ⊎ ByNumber g b a
number_total g a b = either (g a) (g b)
  where
    either : (x y : ℕ) → (x ≤ y) ⊎ (y ≤ x)
    either x y = grind arith

number_trans : (g : ℕ → ℕ) (a b c : ℕ) → ByNumber g a b → ByNumber g b c → ByNumber g a c
number_trans g a b c h k = omega arith

abbrev ByValue : (ℕ → ℚ) → (ℕ → ℕ) → ℕ → ℕ → Type 0
ByValue f g a b = (f a ≤ℚ f b) × (f b ≡ f a → g a ≤ g b)

value_total : (f : ℕ → ℚ) (g : ℕ → ℕ) (a b : ℕ) → ByValue f g a b ⊎ ByValue f g b a
value_total f g a b = elim (eq_or_ne (f b) (f a)) [
  | inl e ↦ elim (number_total g a b) [
    | inl h ↦ inl (subst (λ t. f a ≤ℚ t) (sym e) (le_refl (f a)), λ q. h)
    | inr h ↦ inr (subst (λ t. f b ≤ℚ t) e (le_refl (f b)), λ q. h)
  ]
  | inr n ↦ elim (le_or_lt (f a) (f b)) [
    | inl h ↦ inl (h, λ q. absurd (n q))
    | inr h ↦ inr (le_of_lt _ _ h, λ q. absurd (n (sym q)))
  ]
]

value_trans : (f : ℕ → ℚ) (g : ℕ → ℕ) (a b c : ℕ) → ByValue f g a b → ByValue f g b c → ByValue f g a c
value_trans f g a b c h k = (le_trans _ _ _ h.0 k.0, λ q. ordered (h.1 (b_is_a q)) (k.1 (q ∙ sym (b_is_a q))))
  where
    b_is_a : f c ≡ f a → f b ≡ f a
    b_is_a q = le_antisymm _ _ (subst (λ t. f b ≤ℚ t) q k.0) h.0

    ordered : g a ≤ g b → g b ≤ g c → g a ≤ g c
    ordered h i = omega arith

-- ---- what is narrow is found by a test
tested : (b : Bool) (A : Type 0) → IsTrue b ↔ A → A ⊎ ¬ A
tested true A h = inl (h.0 refl)
tested false A h = inr (λ a. let e = h.1 a in cc)

quotient_or : (a b : ℚ) → IsNarrowQuotient a b ⊎ ¬ (IsNarrowQuotient a b)
unfolding IsNarrowQuotient
quotient_or a b = tested (is_narrow (a /ℚ b)) (IsNarrow (a /ℚ b)) (narrow_tests.number (a /ℚ b))

both_or : (A B : Type 0) → A ⊎ ¬ A → B ⊎ ¬ B → (A × B) ⊎ ¬ (A × B)
both_or A B (inl a) (inl b) = inl (a, b)
both_or A B (inl a) (inr n) = inr (λ p. n p.1)
both_or A B (inr n) q = inr (λ p. n p.0)

step_or : (a b c : ℚ) → IsNarrowStep a b c ⊎ ¬ (IsNarrowStep a b c)
unfolding IsNarrowStep
step_or a b c =
    both_or (IsNarrow (b *ℚ c)) (IsNarrowSum a (b *ℚ c)) (tested (is_narrow (b *ℚ c)) (IsNarrow (b *ℚ c)) (narrow_tests.number (b *ℚ c)))
    (tested (is_narrow_sum a (b *ℚ c)) (IsNarrowSum a (b *ℚ c)) (narrow_tests.sum a (b *ℚ c)))

each_or : (n : ℕ) (P : ℕ → Type 0) → ((k : ℕ) → P k ⊎ ¬ (P k)) → ((k : ℕ) → k < n → P k) ⊎ ¬ ((k : ℕ) → k < n → P k)
each_or zero P d = inl (λ k h. absurd (omega arith))
each_or (suc n) P d = cases (each_or n P d) (d n)
  where
    all : ((k : ℕ) → k < n → P k) → P n → (k : ℕ) → k < suc n → P k
    all f p k h = elim (below_or_same k n h) [
      | inl l ↦ f k l
      | inr e ↦ subst P e p
    ]

    cases : ((k : ℕ) → k < n → P k) ⊎ ¬ ((k : ℕ) → k < n → P k) → P n ⊎ ¬ (P n) → ((k : ℕ) → k < suc n → P k) ⊎ ¬ ((k : ℕ) → k < suc n → P k)
    cases (inl f) (inl p) = inl (all f p)
    cases (inl f) (inr m) = inr (λ g. m (g n (omega arith)))
    cases (inr m) q = inr (λ g. m (λ k h. g k (omega arith)))

substituted_or : (row : List ℚ) (k : ℕ) (by : List ℚ) → IsNarrowSubstituted row k by ⊎ ¬ (IsNarrowSubstituted row k by)
substituted_or row k by = each_or (length row) (λ j. IsNarrowStep (at (without row k) j) (at row k) (at by j)) (λ j. step_or _ _ _)

rows_or : (rows : List (List ℚ)) (r k : ℕ) (by : List ℚ) → AreNarrow rows r k by ⊎ ¬ (AreNarrow rows r k by)
rows_or rows r k by = each_or (length rows) (λ i. i ≢ r → IsNarrowSubstituted (get_or rows i []) k by) (λ i. one_row i (cases_eq i r) (substituted_or (get_or rows i []) k by))
  where
    one_row : (i : ℕ) → (i ≡ r) ⊎ (i ≡ r → ⊥) → IsNarrowSubstituted (get_or rows i []) k by ⊎ ¬ (IsNarrowSubstituted (get_or rows i []) k by)
        → (i ≢ r → IsNarrowSubstituted (get_or rows i []) k by) ⊎ ¬ (i ≢ r → IsNarrowSubstituted (get_or rows i []) k by)
    one_row i (inl e) q = inl (λ n. absurd (n e))
    one_row i (inr n) (inl s) = inl (λ m. s)
    one_row i (inr n) (inr s) = inr (λ f. s (f n))

pivot_or : (d : Dictionary) (r c : ℕ) → IsNarrowPivot d r c ⊎ ¬ (IsNarrowPivot d r c)
pivot_or d r c =
    all (each_or (length (row_of d r)) _ (λ j. quotient_or _ _)) (rows_or d.rows r (suc c) by) (substituted_or d.objective (suc c) by) (substituted_or d.auxiliary (suc c) by)
  where
    by : List ℚ
    by = solved_row (row_of d r) (suc c)

    all : IsNarrowSolvedRow (row_of d r) (suc c) ⊎ ¬ (IsNarrowSolvedRow (row_of d r) (suc c)) → AreNarrow d.rows r (suc c) (solved_row (row_of d r) (suc c)) ⊎ ¬ (AreNarrow d.rows r (suc c) (solved_row (row_of d r) (suc c)))
        → IsNarrowSubstituted d.objective (suc c) (solved_row (row_of d r) (suc c)) ⊎ ¬ (IsNarrowSubstituted d.objective (suc c) (solved_row (row_of d r) (suc c)))
        → IsNarrowSubstituted d.auxiliary (suc c) (solved_row (row_of d r) (suc c)) ⊎ ¬ (IsNarrowSubstituted d.auxiliary (suc c) (solved_row (row_of d r) (suc c))) → IsNarrowPivot d r c ⊎ ¬ (IsNarrowPivot d r c)
    all (inl a) (inl b) (inl e) (inl f) = inl record { row = a; rows = b; objective = e; auxiliary = f }
    all (inr n) b e f = inr (λ p. n p.row)
    all (inl a) (inr n) e f = inr (λ p. n p.rows)
    all (inl a) (inl b) (inr n) f = inr (λ p. n p.objective)
    all (inl a) (inl b) (inl e) (inr n) = inr (λ p. n p.auxiliary)

-- ---- the choices
halves : (j n : ℕ) → (j < n) ⊎ (n ≤ j)
halves j n = grind arith

improves_or : (d : Dictionary) (row : List ℚ) (c : ℕ) → Improves d row c ⊎ ¬ (Improves d row c)
improves_or d row c = cases (halves c (length d.nonbasic)) (cases_eq (get_or d.nonbasic c 0) 0) (le_or_lt (at row (suc c)) zero_ℚ)
  where
    cases : (c < length d.nonbasic) ⊎ (length d.nonbasic ≤ c) → (get_or d.nonbasic c 0 ≡ 0) ⊎ (get_or d.nonbasic c 0 ≡ 0 → ⊥) → (at row (suc c) ≤ℚ zero_ℚ) ⊎ (zero_ℚ <ℚ at row (suc c))
        → Improves d row c ⊎ ¬ (Improves d row c)
    cases (inr h) v e = inr (λ i. let l = i.column in absurd (omega arith))
    cases (inl h) (inl v) e = inr (λ i. i.variable v)
    cases (inl h) (inr v) (inl e) = inr (λ i. lt_irrefl zero_ℚ (lt_of_lt_of_le _ _ _ i.entry e))
    cases (inl h) (inr v) (inr e) = inl record { column = h; variable = v; entry = e }

candidate_or : (d : Dictionary) (c r : ℕ) → IsCandidate d c r ⊎ ¬ (IsCandidate d c r)
candidate_or d c r = cases (halves r (length d.basic)) (le_or_lt zero_ℚ (at (row_of d r) (suc c)))
  where
    cases : (r < length d.basic) ⊎ (length d.basic ≤ r) → (zero_ℚ ≤ℚ at (row_of d r) (suc c)) ⊎ (at (row_of d r) (suc c) <ℚ zero_ℚ) → IsCandidate d c r ⊎ ¬ (IsCandidate d c r)
    cases (inr h) e = inr (λ k. let l = k.row in absurd (omega arith))
    cases (inl h) (inl e) = inr (λ k. lt_irrefl zero_ℚ (lt_of_le_of_lt _ _ _ e k.entry))
    cases (inl h) (inr e) = inl record { row = h; entry = e }

find_entering : (d : Dictionary) (row : List ℚ) → ((c : ℕ) × Enters d row c) ⊎ IsOptimal d row
find_entering d row = elim (search_below (length d.nonbasic) (Improves d row) (ByNumber (λ k. get_or d.nonbasic k 0)) (improves_or d row) (number_total (λ k. get_or d.nonbasic k 0)) (number_trans (λ k. get_or d.nonbasic k 0))) [
  | inl l ↦ inl (l.0, record { improves = l.1.holds; least = λ k i. l.1.least k i.column i })
  | inr f ↦ inr (λ c i. f c i.column i)
]

find_leaving : (d : Dictionary) (c : ℕ) → ((r : ℕ) × Leaves d c r) ⊎ IsUnbounded d c
find_leaving d c = elim (search_below (length d.basic) (IsCandidate d c) (ByValue (ratio_of d c) (λ k. get_or d.basic k 0)) (candidate_or d c) (value_total (ratio_of d c) (λ k. get_or d.basic k 0)) (value_trans (ratio_of d c) (λ k. get_or d.basic k 0))) [
  | inl l ↦ inl (l.0, record { candidate = l.1.holds; least = λ k i. (l.1.least k i.row i).0; ties = λ k i q. (l.1.least k i.row i).1 q })
  | inr f ↦ inr (λ r k. f r k.row k)
]

abbrev IsWideOne : Dictionary → ℕ → ℕ → Type 0
IsWideOne d c r = IsCandidate d c r × ¬ (IsNarrowRatio d c r)

find_wide : (d : Dictionary) (c : ℕ) → ((r : ℕ) × HasWideRatio d c r) ⊎ ((k : ℕ) → IsCandidate d c k → IsNarrowRatio d c k)
find_wide d c = elim (search_below (length d.basic) (IsWideOne d c) (ByNumber (λ k. get_or d.basic k 0)) wide_or (number_total (λ k. get_or d.basic k 0)) (number_trans (λ k. get_or d.basic k 0))) [
  | inl l ↦ inl (l.0, record { candidate = l.1.holds.0; wide = l.1.holds.1; least = λ k i n. l.1.least k i.row (i, n) })
  | inr f ↦ inr (λ k i. narrow k i (f k i.row))
]
  where
    not_or : (A : Type 0) → A ⊎ ¬ A → (¬ A) ⊎ ¬ (¬ A)
    not_or A (inl a) = inr (λ n. n a)
    not_or A (inr n) = inl n

    wide_or : (r : ℕ) → IsWideOne d c r ⊎ ¬ (IsWideOne d c r)
    wide_or r = both_or (IsCandidate d c r) (¬ (IsNarrowRatio d c r)) (candidate_or d c r) (not_or (IsNarrowRatio d c r) (quotient_or _ _))

    narrow : (k : ℕ) → IsCandidate d c k → ¬ (IsWideOne d c k) → IsNarrowRatio d c k
    narrow k i n = elim (quotient_or (at (row_of d k) 0) (neg_ℚ (at (row_of d k) (suc c)))) [
      | inl q ↦ q
      | inr m ↦ absurd (n (i, m))
    ]

find_pivot_row : (d : Dictionary) (c : ℕ) → ((r : ℕ) × IsPivotRow d c r) ⊎ IsUnbounded d c
find_pivot_row d c = elim (find_wide d c) [
  | inl w ↦ inl (w.0, too_wide w.1)
  | inr n ↦ elim (find_leaving d c) [
    | inl l ↦ inl (l.0, leaves n l.1)
    | inr u ↦ inr u
  ]
]

find_beginning : (d : Dictionary) → IsNonBasic d 0 → ((r : ℕ) × (c : ℕ) × Begins d r c) ⊎ IsFeasible d
find_beginning d n = elim (search_below (length d.basic) (λ k. k < length d.basic) (ByValue (λ k. at (row_of d k) 0) (λ k. get_or d.basic k 0)) inside_or (value_total (λ k. at (row_of d k) 0) (λ k. get_or d.basic k 0)) (value_trans (λ k. at (row_of d k) 0) (λ k. get_or d.basic k 0))) [
  | inl l ↦ elim (le_or_lt zero_ℚ (at (row_of d l.0) 0)) [
    | inl h ↦ inr (λ i k. le_trans _ _ _ h (l.1.least i k k).0)
    | inr h ↦ inl (l.0, n.0, record { column = n.1; extra = n.2; row = l.1.below; negative = h; least = λ k i. (l.1.least k i i).0; ties = λ k i q. (l.1.least k i i).1 q })
  ]
  | inr f ↦ inr (λ i h. absurd (f i h h))
]
  where
    inside_or : (k : ℕ) → (k < length d.basic) ⊎ ¬ (k < length d.basic)
    inside_or k = elim (halves k (length d.basic)) [
      | inl h ↦ inl h
      | inr h ↦ inr (λ l. absurd (omega arith))
    ]

-- ---- what comes next
abbrev Next : Dictionary → Type 0
Next d = (r : ℕ) × (c : ℕ) × NextPivot d r c

in_one : (p : Program) (d : Dictionary) → IsRegular p → IsReached p d → IsBasic d 0 → HasEnded d ⊎ Next d
in_one p d g w b = elim (find_entering d d.auxiliary) [
  | inl e ↦ elim (find_pivot_row d e.0) [
    | inl r ↦ inr (r.0, e.0, goes_on one b record { enters = e.1; pivot_row = r.1 })
    | inr u ↦ absurd (u b.0 (extra_candidate p d b.0 e.0 (reached_on_the_way p d g w).dictionary b.1 b.2 e.1.improves))
  ]
  | inr o ↦ inl (infeasible record { phase = b; optimal = o; below = reached_below p d g w b })
]

in_two : (d : Dictionary) → IsInPhase two d → HasEnded d ⊎ Next d
in_two d i = elim (find_entering d d.objective) [
  | inl e ↦ elim (find_pivot_row d e.0) [
    | inl r ↦ inr (r.0, e.0, goes_on two i record { enters = e.1; pivot_row = r.1 })
    | inr u ↦ inl (unbounded e.0 record { phase = i; enters = e.1; unbounded = u })
  ]
  | inr o ↦ inl (best record { phase = i; optimal = o })
]

-- variable 0 is basic or not
extra_nonbasic : (p : Program) (d : Dictionary) → IsDictionaryOf p d → ¬ (IsBasic d 0) → IsNonBasic d 0
extra_nonbasic p d k n = counts_at d.nonbasic 0 (omega (arith, k.places 0, none_counts d.basic 0 n, times_in_some (first_of_program p).nonbasic 0 (omega arith)))

pub run_goes_on : RunGoesOn
run_goes_on p d g w = elim (at_or d.basic 0) [
  | inl b ↦ in_one p d g w b
  | inr n ↦ elim (find_beginning d (extra_nonbasic p d (reached_on_the_way p d g w).dictionary n)) [
    | inl b ↦ inr (b.0, b.1, begins b.2)
    | inr f ↦ in_two d (extra_nonbasic p d (reached_on_the_way p d g w).dictionary n, f)
  ]
]

-- ---- it ends
ends_within : (fuel : ℕ) (p : Program) (k : ℕ) (d : Dictionary) → IsRegular p → Leads k (first_of_program p) d
    → choose (length p.objective + length p.rows + 1) (length p.rows) ≤ k + fuel
    → (k : ℕ) × (d : Dictionary) × Leads k (first_of_program p) d × (HasEnded d ⊎ ((r : ℕ) × (c : ℕ) × NextPivot d r c × ¬ (IsNarrowPivot d r c)))
ends_within zero p k d g l h = let s = runs_are_short p (first_of_program p) l.later (first_on_the_way p g) l.follow in let q = l.count in absurd (omega (arith, s, q))
ends_within (suc fuel) p k d g l h =
    cases (run_goes_on p d g (k, l)) (λ e r c n m q. ends_within fuel p (suc k) e g (leads_further k (first_of_program p) d e r c l n m q) (omega arith))
  where
    cases : HasEnded d ⊎ Next d
        → ((e : Dictionary) (r c : ℕ) → NextPivot d r c → IsNarrowPivot d r c → e ≡ pivoted d r c
        → (k : ℕ) × (d : Dictionary) × Leads k (first_of_program p) d × (HasEnded d ⊎ ((r : ℕ) × (c : ℕ) × NextPivot d r c × ¬ (IsNarrowPivot d r c))))
        → (k : ℕ) × (d : Dictionary) × Leads k (first_of_program p) d × (HasEnded d ⊎ ((r : ℕ) × (c : ℕ) × NextPivot d r c × ¬ (IsNarrowPivot d r c)))
    cases (inl e) more = (k, d, l, inl e)
    cases (inr n) more = elim (pivot_or d n.0 n.1) [
      | inl m ↦ more (pivoted d n.0 n.1) n.0 n.1 n.2 m refl
      | inr m ↦ (k, d, l, inr (n.0, n.1, n.2, m))
    ]

pub run_ends : RunEnds
run_ends p g = ends_within (choose (length p.objective + length p.rows + 1) (length p.rows)) p 0 (first_of_program p) g (leads_nowhere (first_of_program p)) (omega arith)
