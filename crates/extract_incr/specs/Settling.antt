-- How a table comes to have the forms of all places whose forms can be kept.
use Rattle.std.specs.Prelude.{◌≡◌, ◌≤◌, ◌+◌, ℕ, Bool, List, Some, IsSome, is_some}
use Rattle.std.specs.List.{list_any}
use Rattle.std.specs.Ordering.{eq_by_cmp}
use Rattle.cell_refs.specs.Cells.{cell_cmp}
use Rattle.cell_refs.specs.declared.cell.Cell.{Cell}
use Rattle.formula_ast.specs.Tree.{Tree}
use Rattle.recalculation.specs.Entries.{Book, Formula, entry}
use Rattle.recalculation.specs.Walks.{is_circular}
use Rattle.cell_refs.specs.declared.place.Place.{Place}
use Rattle.cell_refs.specs.declared.place.Place.TheVariants as place
use Rattle.needed_forms.specs.FromFormExtraction.{numbered_in}
use Rattle.needed_forms.specs.FromExtract.{Table, form_at, form_count}
use Rattle.needed_forms.specs.FromSheetProblems.{Sides, tree_of}
use Rattle.needed_forms.specs.FromNeededCells.{HasEntry}
use Rattle.extract_incr.specs.Keeping.{AreKept, GrowsTo, Kept, count_to_make, stale_count}

abbrev pub kept_in : List Cell → Sides → Table → Kept
kept_in decisions sides table = record { decisions = decisions; sides = sides; table = table }

-- how many places are stale
unfoldable pub left : Book → Kept → ℕ
left book k = stale_count book k

-- how many forms are to be made
unfoldable pub unmade : Book → Kept → ℕ
unmade book k = count_to_make book k

-- stale places got their forms
pub record Goes (book : Book) (before after : Kept) : Type 0 where
  pub kept : AreKept book after
  pub grown : GrowsTo before after
  pub count : form_count after.table + left book after ≡ form_count before.table + left book before
  pub fewer : left book after ≤ left book before
  pub less : unmade book after ≤ unmade book before

-- the form of a place is kept, if it can be
abbrev pub IsThere : Book → Kept → Place → Type 0
IsThere book k p = HasEntry book k.sides k.decisions p → IsSome (form_at k.table p)

-- so is that of each cell
abbrev pub AreThere : Book → Kept → Type 0
AreThere book k = (a : Cell) → IsThere book k (place.Cell a)

-- a tree is that of a place
abbrev pub IsTreeIn : Book → Sides → Place → Tree → Type 0
IsTreeIn book sides (place.Cell a) t = entry book a ≡ Some (Formula t)
IsTreeIn book sides (place.Side k) t = tree_of sides k ≡ Some t

-- the cells to be decided refer to nothing
abbrev pub leaf_in : List Cell → Cell → Bool
leaf_in decisions b = is_some (numbered_in decisions b)

-- some cells are the circular ones
abbrev pub AreCircular : Book → List Cell → List Cell → Type 0
AreCircular book decisions cells = (a : Cell) → list_any (eq_by_cmp cell_cmp a) cells ≡ is_circular book (leaf_in decisions) a
