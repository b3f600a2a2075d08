-- Tables of forms: those of cells, and those of sides by the numbers of their constraints.
use Rattle.std.specs.Prelude.{ℕ, ◌+◌, Option}
use Rattle.std.specs.FinMap.{FinMap, empty, get, insert, remove, len}
use Rattle.std.specs.Ordering.{nat_cmp}
use Rattle.cell_refs.specs.Cells.{cell_cmp}
use Rattle.cell_refs.specs.declared.place.Place.{Place}
use Rattle.cell_refs.specs.declared.place.Place.TheVariants as place
use Rattle.form_extraction.specs.declared.forms.CellForm.{CellForm}

pub record Table : Type 0 where
  pub cells : FinMap cell_cmp CellForm
  pub sides : FinMap nat_cmp CellForm

abbrev pub no_forms : Table
no_forms = record { cells = empty; sides = empty }

-- the form of a place, where there is one
abbrev pub form_at : Table → Place → Option CellForm
form_at table (place.Cell a) = get table.cells a
form_at table (place.Side k) = get table.sides k

-- a form is put in its place
abbrev pub with_form : Table → Place → CellForm → Table
with_form table (place.Cell a) form = record { cells = insert table.cells a form; sides = table.sides }
with_form table (place.Side k) form = record { cells = table.cells; sides = insert table.sides k form }

-- or taken out of it
abbrev pub without : Table → Place → Table
without table (place.Cell a) = record { cells = remove table.cells a; sides = table.sides }
without table (place.Side k) = record { cells = table.cells; sides = remove table.sides k }

-- how many forms there are
abbrev pub form_count : Table → ℕ
form_count table = len table.cells + len table.sides
