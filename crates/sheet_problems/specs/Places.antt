-- What the places of a sheet are worth, as recalculation has it, with numbers in the place of the decision cells.
use Rattle.std.specs.Prelude.{ℕ, ◌==◌, List, Option, Some, None, option_map, find}
use Rattle.std.specs.Option.{option_and_then}
use Rattle.fractions.specs.Rational.{ℚ, zero_ℚ}
use Rattle.optimality.specs.Problem.{Assignment, Worth}
use Rattle.cell_refs.specs.declared.cell.Cell.{Cell}
use Rattle.formula_ast.specs.Tree.{Tree}
use Rattle.sheet_model.specs.declared.value.Value.{Value}
use Rattle.sheet_model.specs.declared.value.Value.TheVariants.{Number, Empty}
use Rattle.form_extraction.specs.FromRecalculation.{Book, Overriding}
use Rattle.form_extraction.specs.FromRecalculation.{val}
use Rattle.affine_forms.specs.Assigned.{assigned}
use Rattle.cell_refs.specs.declared.place.Place.{Place}
use Rattle.cell_refs.specs.declared.place.Place.TheVariants as place
use Rattle.form_extraction.specs.Places.{numbered_in, overriding}
use Rattle.form_extraction.specs.Looked.{side_value}

-- an assignment puts its numbers in the place of the decision cells
abbrev pub put_over : List Cell → Assignment → Overriding
put_over decisions a = overriding (numbered_in decisions) (assigned a)

-- ---- values
-- expressions of right sides, each with the number of its constraint
abbrev pub Sides : Type 0
Sides = List (ℕ × Tree)

abbrev pub tree_of : Sides → ℕ → Option Tree
tree_of sides k = option_map (λ (side : ℕ × Tree). side.1) (find (λ (side : ℕ × Tree). side.0 == k) sides)

-- the value of a cell or of a side; none where there is no such side
abbrev pub value_at : Book → Sides → Overriding → Place → Option Value
value_at book sides over (place.Cell c) = Some (val book over c)
value_at book sides over (place.Side k) = option_map (side_value book over) (tree_of sides k)

-- the number that a value counts as: an empty one is 0, and a text, a logical or an error is none
abbrev pub number_in : Value → Option ℚ
number_in (Number x) = Some x
number_in Empty = Some zero_ℚ
number_in v = None

-- what a place is worth under an assignment
abbrev pub worth_at : Book → Sides → List Cell → Place → Worth
worth_at book sides decisions p a = option_and_then number_in (value_at book sides (put_over decisions a) p)
