-- Forms that are kept while cells are edited: a mark of a cell drops those of the places that its edit touches.
use Rattle.std.specs.Prelude.{◌≡◌, Bool, true, not, ◌&&◌, if◌then◌else◌, List, Option, Some, None, is_some, IsSome}
use Rattle.std.specs.List.{list_any}
use Rattle.cell_refs.specs.declared.cell.Cell.{Cell}
use Rattle.recalculation.specs.Entries.{Book, entry}
use Rattle.recalculation.specs.Walks.{is_formula}
use Rattle.cell_refs.specs.declared.place.Place.{Place}
use Rattle.cell_refs.specs.declared.place.Place.TheVariants as place
use Rattle.touched_places.specs.FromFormExtraction.{CellForm}
use Rattle.touched_places.specs.FromFormExtraction.{Decisions}
use Rattle.touched_places.specs.Alike.{form_at}
use Rattle.touched_places.specs.Tests.{touches}
use Rattle.touched_places.specs.Touched.{Expressions}

-- the form that is kept of each place, where one is
abbrev pub KeptForms : Type 0
KeptForms = Place → Option CellForm

-- the places whose forms can be kept: formula cells that aren't to be decided, and sides
abbrev pub HasEntry : Book → Decisions → Expressions → Place → Type 0
HasEntry book decisions sides (place.Cell a) = (is_formula (entry book a) ≡ true) × (decisions a ≡ None)
HasEntry book decisions sides (place.Side k) = IsSome (sides k)

-- each form that is kept is that of such a place
abbrev pub AreForms : Book → Decisions → Expressions → KeptForms → Type 0
AreForms book decisions sides kept = (p : Place) (f : CellForm) → kept p ≡ Some f → HasEntry book decisions sides p × (form_at book decisions sides p ≡ Some f)

-- ---- marks
-- whether a mark of a cell reaches a place; that of a decision cell reaches none, since its text counts for nothing
abbrev pub marks : Book → Decisions → Expressions → Cell → Place → Bool
marks book decisions sides to p = not (is_some (decisions to)) && touches book sides to p

-- whether one of several marks does
abbrev pub marks_all : Book → Decisions → Expressions → List Cell → Place → Bool
marks_all book decisions sides cells p = list_any (λ to. marks book decisions sides to p) cells

-- what is kept of the marked places is dropped, and nothing else
abbrev pub without_marked : {X : Type 0} → (Place → Bool) → (Place → Option X) → Place → Option X
without_marked marked kept p = if marked p then None else kept p
