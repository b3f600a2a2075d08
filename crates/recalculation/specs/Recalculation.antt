-- Recalculation (OpenDocument 1.2 part 2, section 3.2): the value of a cell, over fractions of any size, with the numbers of some
-- cells overridden. It is the layer over the values of the others, unfolded once more than there are texts.
use Rattle.std.specs.Prelude.{ℕ, suc, if◌then◌else◌, length, Option, Some, None, is_some}
use Rattle.std.specs.FinMap.{keys}
use Rattle.fractions.specs.Rational.{ℚ}
use Rattle.calculations.specs.Calculation.{exact}
use Rattle.cell_refs.specs.declared.cell.Cell.{Cell}
use Rattle.cell_refs.specs.declared.error_kind.ErrorKind.TheVariants as kind
use Rattle.sheet_model.specs.declared.value.Value.{Value}
use Rattle.sheet_model.specs.declared.value.Value.TheVariants.{Number, Empty, Error}
use Rattle.recalculation.specs.Entries.{Book, Entry, Constant, Formula, Malformed, Overriding, entry}
use Rattle.recalculation.specs.Walks.{is_circular, unfolded}
use Rattle.recalculation.specs.Evaluation.{evaluated, cell_value}

-- the value of what a cell says, over those of the other cells
abbrev pub entry_value : (Cell → Value) → Option Entry → Value
entry_value others None = Empty
entry_value others (Some (Constant v)) = v
entry_value others (Some (Formula t)) = cell_value (exact (evaluated others t))
entry_value others (Some Malformed) = Error kind.Malformed

-- the number that overrides a cell, or else its value
abbrev pub number_or : Option ℚ → Value → Value
number_or (Some x) v = Number x
number_or None v = v

-- the value of a cell over those of the other cells
abbrev pub recalculated : Book → Overriding → (Cell → Value) → Cell → Value
recalculated book over others a =
    number_or (over a) (if is_circular book (λ b. is_some (over b)) a then Error kind.Circular else entry_value others (entry book a))

unfoldable pub bounded_val : Book → Overriding → ℕ → Cell → Value
bounded_val book over n a = unfolded (recalculated book over) (Error kind.Circular) n a

-- the value of a cell
unfoldable pub val : Book → Overriding → Cell → Value
val book over a = bounded_val book over (suc (length (keys book.texts))) a
