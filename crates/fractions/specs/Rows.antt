-- Systems of rows, each of which says that a combination of the variables is at most its bound.
use Rattle.std.specs.Prelude.{List, [], ◌∷◌}
use Rattle.fractions.specs.Rational.{ℚ, ◌+ℚ◌, ◌*ℚ◌, ◌≤ℚ◌, zero_ℚ}
use Rattle.fractions.specs.Vectors.{dot, plus, times, AllNonNegative, EachAtMost}

-- coefficients and the bound that their combination is not to exceed
pub record Row : Type 0 where
  pub coefficients : List ℚ
  pub bound : ℚ

-- the point meets each row
abbrev pub Meets : List Row → List ℚ → Type 0
Meets [] x = Unit {0}
Meets (r ∷ rs) x = dot r.coefficients x ≤ℚ r.bound × Meets rs x

-- the rows' sum, each times its multiplier
abbrev pub combined : List ℚ → List Row → List ℚ
combined [] rs = []
combined (y ∷ ys) [] = []
combined (y ∷ ys) (r ∷ rs) = plus (times y r.coefficients) (combined ys rs)

-- the sum of the bounds, each times its multiplier
abbrev pub combined_bound : List ℚ → List Row → ℚ
combined_bound [] rs = zero_ℚ
combined_bound (y ∷ ys) [] = zero_ℚ
combined_bound (y ∷ ys) (r ∷ rs) = y *ℚ r.bound +ℚ combined_bound ys rs

-- multipliers of the rows whose combination dominates the objective bound it at every point
abbrev pub WeakDuality : Type 0
WeakDuality = (rows : List Row) (objective x y : List ℚ) → AllNonNegative x → AllNonNegative y → Meets rows x
    → EachAtMost objective (combined y rows) → dot objective x ≤ℚ combined_bound y rows
