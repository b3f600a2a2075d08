-- The solutions of the first dictionary with variable 0 at 0 and no variable below 0 are the program's points.
use Rattle.std.proofs.Common.{ℕ, zero, suc, refl, sym, ap, ◌∙◌, List, [], ◌∷◌, ◌++◌, map}
use Rattle.std.specs.List.{range_with_len}
use Rattle.fractions.specs.Rational.{ℚ, ◌≤ℚ◌, zero_ℚ}
use Rattle.fractions.specs.Vectors.{dot, at, AllNonNegative}
use Rattle.fractions.specs.Rows.{Row, Meets}
use Rattle.fractions.proofs.Order.{le_refl, le_iff_sub}
use Rattle.linear_programs.specs.Program.{Program, IsPoint}
use Rattle.dictionaries.specs.Reading.{FirstKeepsPoints}
use Rattle.dictionaries.proofs.Multipliers.{slacks, all_of, columns_are, first_solved}
use Rattle.dictionaries.proofs.Points.{solution_is_point, objective_is}

-- what the rows leave isn't negative where they are met
slacks_nonnegative : (rows : List Row) (z : List ℚ) → Meets rows z → (i : ℕ) → zero_ℚ ≤ℚ at (slacks rows z) i
slacks_nonnegative [] z h i = le_refl zero_ℚ
slacks_nonnegative (r ∷ rows) z h zero = (le_iff_sub (dot r.coefficients z) r.bound).0 h.0
slacks_nonnegative (r ∷ rows) z h (suc i) = slacks_nonnegative rows z h.1 i

after_nonnegative : (z s : List ℚ) → AllNonNegative z → ((i : ℕ) → zero_ℚ ≤ℚ at s i) → (i : ℕ) → zero_ℚ ≤ℚ at (z ++ s) i
after_nonnegative [] s h g i = g i
after_nonnegative (x ∷ z) s h g zero = h.0
after_nonnegative (x ∷ z) s h g (suc i) = after_nonnegative z s h.1 g i

all_nonnegative : (p : Program) (z : List ℚ) → IsPoint p z → (v : ℕ) → zero_ℚ ≤ℚ at (all_of p z) v
all_nonnegative p z h zero = le_refl zero_ℚ
all_nonnegative p z h (suc v) = after_nonnegative z (slacks p.rows z) h.signs (slacks_nonnegative p.rows z h.rows) v

pub first_keeps_points : FirstKeepsPoints
first_keeps_points = record {
  is_point = λ p x s e. solution_is_point p x s e.0 e.1;
  is_solution = λ p z h. (
    at (all_of p z),
    first_solved p z h.size,
    (refl, all_nonnegative p z h),
    ap (λ n. point_at p z n) (sym h.size) ∙ columns_are z (slacks p.rows z),
  );
  objective = objective_is;
}
  where
    point_at : (p : Program) (z : List ℚ) → ℕ → List ℚ
    point_at p z n = map (at (all_of p z)) (range_with_len 1 n)
