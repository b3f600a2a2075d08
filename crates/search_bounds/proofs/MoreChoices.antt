-- More columns or rows have more choices of basic variables.
use Rattle.std.proofs.Common.{◌≡◌, ℕ, zero, suc, ◌+◌, ◌-◌, ◌≤◌, subst, arith}
use Rattle.dictionaries.specs.Count.{choose}

more_things : (k j : ℕ) → choose k j ≤ choose (suc k) j
more_things k zero = omega arith
more_things k (suc j) = omega arith

more_both : (k j : ℕ) → choose k j ≤ choose (suc k) (suc j)
more_both k j = omega arith

self : (a : ℕ) → a ≤ a
self a = omega arith

more_columns : (a k j : ℕ) → choose k j ≤ choose (a + k) j
more_columns zero k j = let e : k ≡ 0 + k = omega arith in subst (λ t. choose k j ≤ choose t j) e (self _)
more_columns (suc a) k j = let e : suc (a + k) ≡ suc a + k = omega arith in subst (λ t. choose k j ≤ choose t j) e (omega (arith, more_columns a k j, more_things (a + k) j))

more_rows : (b k j : ℕ) → choose k j ≤ choose (b + k) (b + j)
more_rows zero k j =
    let e : k ≡ 0 + k = omega arith in
    let f : j ≡ 0 + j = omega arith in
    subst (λ i. choose k j ≤ choose (0 + k) i) f (subst (λ t. choose k j ≤ choose t j) e (self _))
more_rows (suc b) k j =
    let e : suc (b + k) ≡ suc b + k = omega arith in
    let f : suc (b + j) ≡ suc b + j = omega arith in
    subst (λ i. choose k j ≤ choose (suc b + k) i) f
    (subst (λ t. choose k j ≤ choose t (suc (b + j))) e (omega (arith, more_rows b k j, more_both (b + k) (b + j))))

pub choices_grow : (n m N M : ℕ) → n ≤ N → m ≤ M → choose (n + m + 1) m ≤ choose (N + M + 1) M
choices_grow n m N M h k =
    let a = N - n in
    let b = M - m in
    let e : a + (b + (n + m + 1)) ≡ N + M + 1 = omega arith in
    let f : b + m ≡ M = omega arith in
    subst (λ j. choose (n + m + 1) m ≤ choose (N + M + 1) j) f
    (subst (λ t. choose (n + m + 1) m ≤ choose t (b + m)) e (omega (arith, more_rows b (n + m + 1) m, more_columns a (b + (n + m + 1)) (b + m))))
