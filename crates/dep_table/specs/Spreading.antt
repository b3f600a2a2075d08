-- Flags that spread along references.
use Rattle.std.specs.Prelude.{◌≡◌, ℕ, ◌+◌, ◌<◌, ◌≤◌, Bool, true, false, List, length, slice_index_or, sum_by, ◌⊎◌}

-- what has a flag refers to such alone
abbrev pub IsClosed : (ℕ → ℕ → Bool) → List Bool → Type 0
IsClosed edge flags = (i j : ℕ) → slice_index_or flags i false ≡ true → edge i j ≡ true → slice_index_or flags j false ≡ true

-- the same on the way, but for those of n formulas that stand in the list from a place on
pub record IsSpreading (n : ℕ) (edge : ℕ → ℕ → Bool) (flags : List Bool) (reached : List ℕ) (next : ℕ) : Type 0 where
  pub same_length : length flags ≡ n
  pub within : (p : ℕ) → p < length reached → slice_index_or reached p 0 < n
  pub closed : (i j : ℕ) → slice_index_or flags i false ≡ true → edge i j ≡ true
      → (slice_index_or flags j false ≡ true) ⊎ ((p : ℕ) × (next ≤ p) × (p < length reached) × (slice_index_or reached p 0 ≡ i))

abbrev pub not_yet : Bool → ℕ
not_yet true = 0
not_yet false = 1

-- how many can be in the list at the end
unfoldable pub left_to_reach : List Bool → List ℕ → ℕ
left_to_reach flags reached = sum_by not_yet flags + length reached
