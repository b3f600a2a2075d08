-- The cells that are taken as parameters, and their numbers.
use Rattle.std.specs.Prelude.{ℕ, Bool, true, false, not, ◌&&◌, nat_lt, if◌then◌else◌, List, find, length, map, Option, None, is_some}
use Rattle.fractions.specs.Rational.{ℚ, zero_ℚ}
use Rattle.cell_refs.specs.declared.cell.Cell.{Cell}
use Rattle.cell_refs.specs.declared.limits.TheConstants.{TEXT_BYTES}
use Rattle.recalculation.specs.Entries.{Book, entry}
use Rattle.workbook.specs.Contents.{kind_of}
use Rattle.workbook.specs.State.{State}
use Rattle.workbook.specs.declared.kind.Kind.{Kind}
use Rattle.workbook.specs.declared.kind.Kind.TheVariants as kind
use Rattle.form_extraction.specs.Places.{numbered_in}
use Rattle.solver_names.specs.Texts.{cells_in}

-- the cells of all references of a text, as in that of the decision cells; none where it isn't of the form, or longer than a field
abbrev pub cells_named : State → ℕ → List ℕ → Option (List Cell)
cells_named book sheet text = if nat_lt TEXT_BYTES (length text) then None else cells_in book sheet text

-- what a text says is a number
abbrev pub is_number : Kind → Bool
is_number (kind.Number x) = true
is_number k = false

-- the cell isn't to be decided, and its text is a number
abbrev pub can_be_parameter : Book → List Cell → Cell → Bool
can_be_parameter book decisions c = not (is_some (numbered_in decisions c)) && is_number (kind_of (entry book c))

-- the first cell that can't be a parameter
abbrev pub other_cell : Book → List Cell → List Cell → Option Cell
other_cell book decisions cells = find (λ c. not (can_be_parameter book decisions c)) cells

-- the number that a text says, and 0 for any other text
abbrev pub number_said : Kind → ℚ
number_said (kind.Number x) = x
number_said k = zero_ℚ

abbrev pub values_in : Book → List Cell → List ℚ
values_in book cells = map (λ c. number_said (kind_of (entry book c))) cells
