-- Sums over the numbers below one.
use Rattle.std.proofs.Common.{◌≡◌, ◌<◌, ◌≤◌, ◌+◌, ◌-◌, ℕ, zero, suc, inl, inr, min, refl, ap, ap₂, arith}
use Rattle.std.specs.Prelude.{◌&&◌, ◌==◌, nat_le, nat_lt}
use Rattle.std.proofs.lemmas.Bool.{cases_Bool, eqb-true, eqb-false, leb-true, leb-false, ltb-true, ltb-false}
use Rattle.solver_names.specs.Counts.{bit, sum_below}

pub sum_none : (f : ℕ → ℕ) → sum_below f 0 ≡ 0
unfolding sum_below
sum_none f = refl

pub sum_more : (f : ℕ → ℕ) (n : ℕ) → sum_below f (n + 1) ≡ sum_below f n + f n
unfolding sum_below
sum_more f n = let q : n + 1 ≡ suc n = omega arith in ap (sum_below f) q

pub sum_add : (f g h : ℕ → ℕ) (n : ℕ) → ((i : ℕ) → i < n → f i ≡ g i + h i) → sum_below f n ≡ sum_below g n + sum_below h n
unfolding sum_below
sum_add f g h zero e = refl
sum_add f g h (suc n) e =
    let before : sum_below f n ≡ sum_below g n + sum_below h n = sum_add f g h n (λ i below. e i (omega (arith, below))) in
    let last : f n ≡ g n + h n = e n (omega arith) in
    omega (arith, before, last)

pub sum_same : (f g : ℕ → ℕ) (n : ℕ) → ((i : ℕ) → i < n → f i ≡ g i) → sum_below f n ≡ sum_below g n
unfolding sum_below
sum_same f g zero e = refl
sum_same f g (suc n) e = ap₂ (λ x y. x + y) (sum_same f g n (λ i below. e i (omega (arith, below)))) (e n (omega arith))

pub sum_zero : (f : ℕ → ℕ) (n : ℕ) → ((i : ℕ) → i < n → f i ≡ 0) → sum_below f n ≡ 0
unfolding sum_below
sum_zero f zero e = refl
sum_zero f (suc n) e =
    let before : sum_below f n ≡ 0 = sum_zero f n (λ i below. e i (omega (arith, below))) in
    let last : f n ≡ 0 = e n (omega arith) in
    omega (arith, before, last)

-- one number alone counts
pub sum_one : (f : ℕ → ℕ) (n k : ℕ) → k < n → ((i : ℕ) → (i ≡ k → ⊥) → f i ≡ 0) → sum_below f n ≡ f k
unfolding sum_below
sum_one f zero k below other = absurd (omega (arith, below))
sum_one f (suc n) k below other = elim (cases_Bool (n == k)) [
  | inl same ↦
      let is : n ≡ k = eqb-true n k same in
      let before : sum_below f n ≡ 0 = sum_zero f n (λ i low. other i (λ e. omega (arith, low, e, is))) in
      let last : f n ≡ f k = ap f is in
      omega (arith, before, last)
  | inr differs ↦
      let isnt : n ≡ k → ⊥ = eqb-false n k differs in
      let before : sum_below f n ≡ f k = sum_one f n k (omega (arith, below, isnt)) other in
      let last : f n ≡ 0 = other n isnt in
      omega (arith, before, last)
]

-- ---- how many numbers lie between two
between : (low high i : ℕ) → low ≤ high → bit (nat_le low i && nat_lt i high) + min i high + min (suc i) low ≡ min (suc i) high + min i low
between low high i order = elim (cases_Bool (nat_le low i)) [
  | inl from ↦ elim (cases_Bool (nat_lt i high)) [
    | inl under ↦
        let one : bit (nat_le low i && nat_lt i high) ≡ 1 = ap₂ (λ p q. bit (p && q)) from under in
        omega (arith, one, leb-true low i from, ltb-true i high under)
    | inr over ↦
        let none : bit (nat_le low i && nat_lt i high) ≡ 0 = ap₂ (λ p q. bit (p && q)) from over in
        omega (arith, none, leb-true low i from, ltb-false i high over, order)
  ]
  | inr before ↦
      let none : bit (nat_le low i && nat_lt i high) ≡ 0 = ap (λ p. bit (p && nat_lt i high)) before in
      omega (arith, none, leb-false low i before, order)
]

between_below : (low high n : ℕ) → low ≤ high → sum_below (λ i. bit (nat_le low i && nat_lt i high)) n + min n low ≡ min n high
unfolding sum_below
between_below low high zero order = omega arith
between_below low high (suc n) order =
    let before : sum_below (λ i. bit (nat_le low i && nat_lt i high)) n + min n low ≡ min n high = between_below low high n order in
    let here : bit (nat_le low n && nat_lt n high) + min n high + min (suc n) low ≡ min (suc n) high + min n low = between low high n order in
    omega (arith, before, here)

pub sum_between : (low high n : ℕ) → low ≤ high → high ≤ n → sum_below (λ i. bit (nat_le low i && nat_lt i high)) n ≡ high - low
sum_between low high n order most = omega (arith, between_below low high n order, order, most)
