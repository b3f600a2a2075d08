-- How many rising lists of numbers there are, by Pascal's rule.
use Rattle.std.specs.Prelude.{◌≡◌, ◌≢◌, ◌⊎◌, ℕ, zero, suc, ◌+◌, ◌<◌, ◌≤◌, List, [], ◌∷◌, length, All, AllPairs}

-- the ways to choose j of k things
abbrev pub choose : ℕ → ℕ → ℕ
choose k zero = 1
choose zero (suc j) = 0
choose (suc k) (suc j) = choose k j + choose k (suc j)

-- numbers from low up to below high, each above the one before
abbrev pub IsRising : ℕ → ℕ → List ℕ → Type 0
IsRising low high [] = Unit {0}
IsRising low high (x ∷ xs) = (low ≤ x) × (x < high) × IsRising (suc x) high xs

-- the number stands in the list
abbrev pub IsMember : ℕ → List ℕ → Type 0
IsMember v [] = ⊥
IsMember v (x ∷ xs) = (x ≡ v) ⊎ IsMember v xs

-- different rising lists of j numbers below k are at most C(k, j)
abbrev pub RisingListsCounted : Type 0
RisingListsCounted = (k j : ℕ) (lists : List (List ℕ)) → All (λ xs. IsRising 0 k xs × (length xs ≡ j)) lists → AllPairs ◌≢◌ lists → length lists ≤ choose k j
