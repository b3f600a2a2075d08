-- Assignments as lists: a number for each decision from 0 on.
use Rattle.std.specs.Prelude.{ℕ, ◌<◌, List, [], ◌∷◌, slice_index_or, ⊤}
use Rattle.fractions.specs.Rational.{ℚ, zero_ℚ}
use Rattle.affine_forms.specs.Forms.{Assignment}

-- what each decision is by the list; 0 past its end
abbrev pub assigned : List ℚ → Assignment
assigned xs = λ j. slice_index_or xs j zero_ℚ

-- the decisions of terms are below a bound
abbrev pub ReachTo : List (ℕ × ℚ) → ℕ → Type 0
ReachTo [] n = ⊤
ReachTo (t ∷ ts) n = (t.0 < n) × ReachTo ts n
