-- The standard program of a box: one column for a decision that is not negative there, else two whose difference it is.
-- (Chvatal, Linear Programming, chapters 1 and 8.)
use Rattle.std.specs.Prelude.{ℕ, suc, Bool, true, false, not, if◌then◌else◌, List, [], ◌∷◌, ◌++◌, map, Option, Some, None, flat_map}
use Rattle.fractions.specs.Rational.{ℚ, neg_ℚ, zero_ℚ, one_ℚ, le_ℚ, eq_ℚ}
use Rattle.fractions.specs.Rows.{Row}
use Rattle.optimality.specs.Problem.{Relation, at_most, equal, at_least}
use Rattle.affine_forms.specs.Forms.{AffineForm, coefficient, constant_form, negated}
use Rattle.linear_programs.specs.Program.{Program}
use Rattle.linear_models.specs.Box.{Box}
use Rattle.linear_models.specs.Model.{Model, maximised}

-- ---- columns
-- whether a decision with this least value has two columns
abbrev pub is_split : Option ℚ → Bool
is_split None = true
is_split (Some b) = not (le_ℚ zero_ℚ b)

abbrev pub splits_of : Box → List Bool
splits_of box = map is_split box.least

-- the columns of each decision, numbered from the given number on
abbrev pub columns_from : ℕ → List Bool → List (ℕ × Option ℕ)
columns_from k [] = []
columns_from k (false ∷ splits) = (k, None) ∷ columns_from (suc k) splits
columns_from k (true ∷ splits) = (k, Some (suc k)) ∷ columns_from (suc (suc k)) splits

-- a number for each decision, as one for each column
abbrev pub spread : List Bool → (ℕ → ℚ) → List ℚ
spread [] c = []
spread (false ∷ splits) c = c 0 ∷ spread splits (λ j. c (suc j))
spread (true ∷ splits) c = c 0 ∷ neg_ℚ (c 0) ∷ spread splits (λ j. c (suc j))

-- ---- rows
-- forms that are to be at most 0
abbrev pub limits_of_row : AffineForm × Relation → List AffineForm
limits_of_row (f, at_most) = f ∷ []
limits_of_row (f, at_least) = negated f ∷ []
limits_of_row (f, equal) = f ∷ negated f ∷ []

-- a least value of 0 has no row: its column is not negative
abbrev pub limits_of_least : ℕ → Option ℚ → List AffineForm
limits_of_least j None = []
limits_of_least j (Some b) = if eq_ℚ b zero_ℚ then [] else record { constant = b; terms = (j, neg_ℚ one_ℚ) ∷ [] } ∷ []

abbrev pub limits_of_greatest : ℕ → Option ℚ → List AffineForm
limits_of_greatest j None = []
limits_of_greatest j (Some b) = record { constant = neg_ℚ b; terms = (j, one_ℚ) ∷ [] } ∷ []

-- of each decision from j on, the least value and then the greatest
abbrev pub limits_of_bounds : ℕ → List (Option ℚ) → List (Option ℚ) → List AffineForm
limits_of_bounds j [] gs = []
limits_of_bounds j (l ∷ ls) [] = []
limits_of_bounds j (l ∷ ls) (g ∷ gs) = limits_of_least j l ++ (limits_of_greatest j g ++ limits_of_bounds (suc j) ls gs)

-- the model's rows, and then the bounds of the box
abbrev pub limits : Model → Box → List AffineForm
limits m box = flat_map limits_of_row m.rows ++ limits_of_bounds 0 box.least box.greatest

-- `form ≤ 0` over the columns
abbrev pub program_row : List Bool → AffineForm → Row
program_row splits f = record { coefficients = spread splits (coefficient f.terms); bound = neg_ℚ f.constant }

-- ---- the program
-- the objective, or 0 where only a point is wanted
abbrev pub wanted : Model → Bool → AffineForm
wanted m true = constant_form zero_ℚ
wanted m false = maximised m.goal m.objective

abbrev pub standard : Model → Box → Bool → Program
standard m box plain = record {
  columns = columns_from 0 (splits_of box);
  objective = spread (splits_of box) (coefficient (wanted m plain).terms);
  constant = (wanted m plain).constant;
  rows = map (program_row (splits_of box)) (limits m box);
}
