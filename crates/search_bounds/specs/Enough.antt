-- The units that are enough for a search: those of two trees, each of whose nodes takes at most one unit for each choice of its program's basic variables.
-- (Chvatal, Linear Programming, chapter 3; Schrijver, Theory of Linear and Integer Programming, chapter 24.)
use Rattle.std.specs.Prelude.{ℕ, ◌+◌, ◌*◌, length}
use Rattle.dictionaries.specs.Run.{enough_units}
use Rattle.linear_models.specs.Model.{Model}
use Rattle.search_bounds.specs.Choices.{choices_of}

-- the columns that a standard program of a model's box has at most, two for each decision
abbrev pub most_columns : Model → ℕ
most_columns m = 2 * length m.whole

-- and the rows, two for each row of the model and two for the bounds of each decision
abbrev pub most_rows : Model → ℕ
most_rows m = 2 * length m.rows + 2 * length m.whole

-- 2 P (2 + 2 C), with P the choices of whole values, and C the ways to choose the basic variables of a program with so many columns and rows
abbrev pub enough_for : Model → ℕ
enough_for m = 2 * choices_of m * enough_units (most_columns m) (most_rows m)
