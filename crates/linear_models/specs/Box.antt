-- Boxes: an optional least and greatest value for each decision.
use Rattle.std.specs.Prelude.{◌≡◌, ℕ, List, Option, Some, None, slice_index_or, slice_set, if◌then◌else◌}
use Rattle.fractions.specs.Rational.{ℚ, ◌≤ℚ◌, le_ℚ}
use Rattle.fractions.specs.Vectors.{at}
use Rattle.optimality.specs.Problem.{Assignment}

pub record Box : Type 0 where
  pub least : List (Option ℚ)
  pub greatest : List (Option ℚ)

-- a decision's bound in a list, none past its end
abbrev pub bound_at : List (Option ℚ) → ℕ → Option ℚ
bound_at bounds j = slice_index_or bounds j None

-- each decision lies within its bounds
pub record InBox (box : Box) (a : Assignment) : Type 0 where
  pub least : (j : ℕ) (b : ℚ) → bound_at box.least j ≡ Some b → b ≤ℚ at a j
  pub greatest : (j : ℕ) (b : ℚ) → bound_at box.greatest j ≡ Some b → at a j ≤ℚ b

-- the lesser of a greatest value that may be there and another
abbrev pub lesser : Option ℚ → ℚ → ℚ
lesser None f = f
lesser (Some b) f = if le_ℚ b f then b else f

-- the greater of a least value that may be there and another
abbrev pub greater : Option ℚ → ℚ → ℚ
greater None f = f
greater (Some b) f = if le_ℚ f b then b else f

-- ---- the parts of a box
-- the decision is at most that number
abbrev pub lower_part : Box → ℕ → ℚ → Box
lower_part box j b = record { least = box.least; greatest = slice_set box.greatest j (Some (lesser (bound_at box.greatest j) b)) }

-- the decision is at least that number
abbrev pub upper_part : Box → ℕ → ℚ → Box
upper_part box j b = record { least = slice_set box.least j (Some (greater (bound_at box.least j) b)); greatest = box.greatest }
