-- What an edit of a cell touches: references of formulas as they stand lead to it.
use Rattle.std.specs.Prelude.{◌≡◌, ℕ, true, Option, Some, None}
use Rattle.cell_refs.specs.declared.cell.Cell.{Cell}
use Rattle.formula_ast.specs.Tree.{Tree}
use Rattle.column_strips.specs.Affected as lists
use Rattle.recalculation.specs.Entries.{Book, Formula, entry}
use Rattle.recalculation.specs.Walks.{refers}
use Rattle.cell_refs.specs.declared.place.Place.{Place}
use Rattle.cell_refs.specs.declared.place.Place.TheVariants as place

-- the expressions of right sides, by the numbers of their constraints
abbrev pub Expressions : Type 0
Expressions = ℕ → Option Tree

-- references lead from a cell to another one, each of a formula as it stands
abbrev pub Reaches : Book → Cell → Cell → Type 0
Reaches book to c = lists.Reaches (λ b d. refers (entry book b) d) to c

-- a cell itself, and each cell that reaches it
abbrev pub IsAtOrReaches : Book → Cell → Cell → Type 0
IsAtOrReaches book to c = lists.IsAtOrReaches (λ b d. refers (entry book b) d) to c

-- an expression refers to one of these
abbrev pub RefersToTouched : Book → Cell → Option Tree → Type 0
RefersToTouched book to None = ⊥
RefersToTouched book to (Some t) = (c : Cell) × (refers (Some (Formula t)) c ≡ true) × IsAtOrReaches book to c

-- an edit of a cell touches that cell, the formula cells that reach it, and the sides that refer to one of these
abbrev pub IsTouched : Book → Expressions → Cell → Place → Type 0
IsTouched book sides to (place.Cell c) = IsAtOrReaches book to c
IsTouched book sides to (place.Side k) = RefersToTouched book to (sides k)
