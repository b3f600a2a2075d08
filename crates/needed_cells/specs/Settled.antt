-- Tables that have the forms of all places whose forms can be kept.
use Rattle.std.specs.Prelude.{◌≡◌, true, List, Some, None, IsSome, ⊤}
use Rattle.cell_refs.specs.declared.cell.Cell.{Cell}
use Rattle.recalculation.specs.Entries.{Book, entry}
use Rattle.recalculation.specs.Walks.{is_formula}
use Rattle.cell_refs.specs.declared.place.Place.{Place}
use Rattle.cell_refs.specs.declared.place.Place.TheVariants as place
use Rattle.form_extraction.specs.declared.forms.CellForm.{CellForm}
use Rattle.form_extraction.specs.Places.{numbered_in}
use Rattle.extract.specs.Tables.{Table, form_at as kept_at}
use Rattle.form_needs.specs.FromSheetProblems.{form_at}
use Rattle.form_needs.specs.FromSheetProblems.{Sides, tree_of}

-- the places whose forms are kept: formula cells that aren't to be decided, and sides
abbrev pub HasEntry : Book → Sides → List Cell → Place → Type 0
HasEntry book sides decisions (place.Cell a) = (is_formula (entry book a) ≡ true) × (numbered_in decisions a ≡ None)
HasEntry book sides decisions (place.Side k) = IsSome (tree_of sides k)

-- each form in a table is that of such a place
abbrev pub AreForms : Book → Sides → List Cell → Table → Type 0
AreForms book sides decisions table =
    (p : Place) (f : CellForm) → kept_at table p ≡ Some f → HasEntry book sides decisions p × (form_at book sides decisions p ≡ Some f)

-- and each such place has its form there
pub record IsSettled (book : Book) (sides : Sides) (decisions : List Cell) (table : Table) : Type 0 where
  pub forms : AreForms book sides decisions table
  pub all : (p : Place) → HasEntry book sides decisions p → IsSome (kept_at table p)

-- a place from which a model can be made: a cell, or one of the sides
abbrev pub IsRoot : Sides → Place → Type 0
IsRoot sides (place.Cell a) = ⊤
IsRoot sides (place.Side k) = IsSome (tree_of sides k)
