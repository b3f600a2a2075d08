-- Linear programs in standard form: the greatest value of an objective under rows `combination ≤ bound`, where no column is negative (Chvátal, chapter 1).
use Rattle.std.specs.Prelude.{◌≡◌, ◌≢◌, ◌<◌, ℕ, List, length, map, All, Option, Some, None}
use Rattle.std.specs.List.{range_with_len}
use Rattle.fractions.specs.Rational.{ℚ, ◌+ℚ◌, ◌-ℚ◌, ◌*ℚ◌, ◌≤ℚ◌, ◌<ℚ◌, zero_ℚ}
use Rattle.fractions.specs.Vectors.{dot, at, plus, times, AllNonNegative}
use Rattle.fractions.specs.Rows.{Row, Meets, combined, combined_bound}

-- each cell has one column, or two whose difference it is
pub record Program : Type 0 where
  pub columns : List (ℕ × Option ℕ)
  pub objective : List ℚ
  pub constant : ℚ
  pub rows : List Row

-- each row has one number per column
abbrev pub IsRegular : Program → Type 0
IsRegular p = All (λ r. length r.coefficients ≡ length p.objective) p.rows

-- what the objective is at a point
abbrev pub objective_at : Program → List ℚ → ℚ
objective_at p x = p.constant +ℚ dot p.objective x

-- a point: one number per column, none negative, and every row is met
pub record IsPoint (p : Program) (x : List ℚ) : Type 0 where
  pub size : length x ≡ length p.objective
  pub signs : AllNonNegative x
  pub rows : Meets p.rows x

-- ---- leaf proofs
-- the combination of the rows is at least the objective in each column, and bounds it by b
pub record Bounds (p : Program) (y : List ℚ) (b : ℚ) : Type 0 where
  pub signs : AllNonNegative y
  pub columns : (j : ℕ) → at p.objective j ≤ℚ at (combined y p.rows) j
  pub constant : (combined_bound y p.rows +ℚ p.constant) ≤ℚ b

-- no coefficient of the combination is negative, and its constant is
pub record IsContradictory (p : Program) (y : List ℚ) : Type 0 where
  pub signs : AllNonNegative y
  pub columns : (j : ℕ) → zero_ℚ ≤ℚ at (combined y p.rows) j
  pub constant : combined_bound y p.rows <ℚ zero_ℚ

-- a direction that lowers no column, keeps every row and improves the objective
abbrev pub Lowers : List Row → List ℚ → Type 0
Lowers rows d = All (λ r. dot r.coefficients d ≤ℚ zero_ℚ) rows

-- a way out, which leads on from each point without end
pub record IsWayOut (p : Program) (d : List ℚ) : Type 0 where
  pub size : length d ≡ length p.objective
  pub signs : AllNonNegative d
  pub rows : Lowers p.rows d
  pub improves : zero_ℚ <ℚ dot p.objective d

-- ---- by decision cells
-- the cell's number among the columns' numbers
abbrev pub cell_number : List ℚ → ℕ × Option ℕ → ℚ
cell_number x (j, None) = at x j
cell_number x (j, Some k) = at x j -ℚ at x k

-- the numbers of all cells
abbrev pub cell_numbers : Program → List ℚ → List ℚ
cell_numbers p x = map (cell_number x) p.columns

-- a point by its cells
abbrev pub IsPointOfCells : Program → List ℚ → Type 0
IsPointOfCells p v = (x : List ℚ) × IsPoint p x × (v ≡ cell_numbers p x)

-- a way out by its cells
abbrev pub IsWayOutOfCells : Program → List ℚ → Type 0
IsWayOutOfCells p v = (d : List ℚ) × IsWayOut p d × (v ≡ cell_numbers p d)

-- two columns of a program that are each other's negative, as the two columns of one cell
pub record AreOpposite (p : Program) (j k : ℕ) : Type 0 where
  pub different : j ≢ k
  pub one : j < length p.objective
  pub other : k < length p.objective
  pub rows : All (λ r. at r.coefficients j +ℚ at r.coefficients k ≡ zero_ℚ) p.rows
  pub objective : at p.objective j +ℚ at p.objective k ≡ zero_ℚ

-- one column, or two opposite ones
abbrev pub IsCell : Program → ℕ × Option ℕ → Type 0
IsCell p (j, None) = j < length p.objective
IsCell p (j, Some k) = AreOpposite p j k

-- each cell is one of these
abbrev pub AreCells : Program → Type 0
AreCells p = All (IsCell p) p.columns

-- the cell of one column
abbrev pub single_column : ℕ → ℕ × Option ℕ
single_column j = (j, None)

-- n cells of one column each
abbrev pub single_columns : ℕ → List (ℕ × Option ℕ)
single_columns n = map single_column (range_with_len 0 n)

-- the point followed along the direction k times
abbrev pub followed : List ℚ → List ℚ → ℚ → List ℚ
followed x d k = plus x (times k d)

-- ---- leaf proofs hold
-- each kind of leaf proof proves what it says
pub record LeafProofsHold : Type 0 where
  -- no point has a greater objective
  pub bounds : (p : Program) (x y : List ℚ) (b : ℚ) → IsPoint p x → Bounds p y b → objective_at p x ≤ℚ b
  -- there is no point
  pub contradictory : (p : Program) (x y : List ℚ) → IsPoint p x → IsContradictory p y → ⊥
  -- each point can be followed as far as is wanted, and the objective grows
  pub way_out : (p : Program) (x d : List ℚ) (k : ℚ) → IsPoint p x → IsWayOut p d → zero_ℚ ≤ℚ k
      → IsPoint p (followed x d k) × (objective_at p (followed x d k) ≡ objective_at p x +ℚ k *ℚ dot p.objective d)
