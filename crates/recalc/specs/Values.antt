-- What is known of cells, in one list, with the place of each cell in it.
use Rattle.std.specs.Prelude.{◌≡◌, ◌<◌, ℕ, List, Option, Some, None, get_or, length}
use Rattle.cell_refs.specs.declared.cell.Cell.{Cell}
use Rattle.sheet_model.specs.declared.value.Value.{Value}
use Rattle.sheet_model.specs.declared.value.Value.TheVariants.{Empty}
use Rattle.sheet_model.specs.declared.value.Value.TheVariants as value
use Rattle.recalculation.specs.Entries.{Book}
use Rattle.recalc.specs.declared.rows.Row.{Row}
use Rattle.recalc.specs.declared.values.Known.{Known}
use Rattle.recalc.specs.declared.values.Known.TheVariants as known
use Rattle.recalc.specs.declared.values.Values.{Values}
use Rattle.recalc.specs.Places.{place_in}
use Rattle.recalc.specs.Rows.{seen_in}

-- the value that is known
abbrev pub known_value : Known → Option Value
known_value known.Nothing = None
known_value (known.Value v) = Some v
known_value (known.Text t) = Some (value.Text t.now)

-- the value at a place of the list, if it is known
abbrev pub value_in_list : Values → ℕ → Option Value
value_in_list t place = known_value (get_or t.known.items place known.Nothing)

-- the value of a cell, if it is known
abbrev pub value_at : Values → Cell → Option Value
value_at t q = value_in_list t (place_in t.places q)

-- each cell has a place in the list, and the first place is that of an empty cell
pub record IsTable (t : Values) : Type 0 where
  pub empty : known_value (get_or t.known.items 0 known.Nothing) ≡ Some Empty
  pub within : (q : Cell) → place_in t.places q < length t.known.items

-- it has what is seen of each cell, from the rows of some formulas
abbrev pub HasSeen : Book → List (Cell × Row) → Values → Type 0
HasSeen book rows t = (q : Cell) → value_at t q ≡ seen_in book rows q
