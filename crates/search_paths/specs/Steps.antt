-- A part as it is told: the decision, whether the part is the upper one, and the bound that it sets.
use Rattle.std.specs.Prelude.{ℕ, ℤ, pos, ◌+ℤ◌, Bool, true, false}
use Rattle.searches.specs.Trees.{Part, lower, upper}

abbrev pub step_of : Part → ℕ × Bool × ℤ
step_of (lower j f) = (j, false, f)
step_of (upper j f) = (j, true, f +ℤ pos 1)

-- the decision and the floor of the split of which it is a part
abbrev pub split_of : Part → ℕ × ℤ
split_of (lower j f) = (j, f)
split_of (upper j f) = (j, f)
