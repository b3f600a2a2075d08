-- How the needed cells are found: from the roots on, each time the cells at which a found one looks.
use Rattle.std.specs.Prelude.{◌≡◌, ℕ, ◌+◌, ◌≤◌, Bool, true, false, ◌&&◌, if◌then◌else◌, List, [], ◌∷◌, length, Option, Some, None, Contains, ◌⊎◌}
use Rattle.std.specs.FinSet as set
use Rattle.std.specs.List.{list_any}
use Rattle.cell_refs.specs.declared.cell.Cell.{Cell}
use Rattle.cell_refs.specs.Areas.{Area, within}
use Rattle.cell_refs.specs.Cells.{cell_cmp}
use Rattle.formula_ast.specs.Tree.{Tree}
use Rattle.recalculation.specs.Entries.{Book, entry}
use Rattle.workbook.specs.Contents.{tree_of as tree_said}
use Rattle.workbook.specs.Kinds.{book_of}
use Rattle.workbook.specs.State.{State}
use Rattle.cell_refs.specs.declared.place.Place.{Place}
use Rattle.cell_refs.specs.declared.place.Place.TheVariants as place
use Rattle.form_extraction.specs.declared.forms.CellForm.{CellForm}
use Rattle.form_extraction.specs.declared.forms.CellForm.TheVariants.{Circular}
use Rattle.form_extraction.specs.Places.{numbered_in}
use Rattle.extract.specs.Knowing.{is_open_text}
use Rattle.extract.specs.Tables.{Table, form_at}
use Rattle.form_needs.specs.Needed.{Asked, IsNeeded, PlaceLooksAt}
use Rattle.form_needs.specs.FromSheetProblems.{Sides, tree_of}

abbrev pub asked : State → Sides → List Cell → List Place → Asked
asked book sides decisions roots = record { book = book_of book; sides = sides; decisions = decisions; roots = roots }

-- ---- trees and kept forms of places
abbrev pub unless_decided : Option ℕ → Option Tree → Option Tree
unless_decided (Some j) t = None
unless_decided None t = t

-- the tree of a side, or of a formula cell that isn't to be decided
abbrev pub place_tree : Asked → Place → Option Tree
place_tree q (place.Cell a) = unless_decided (numbered_in q.decisions a) (tree_said (entry q.book a))
place_tree q (place.Side k) = tree_of q.sides k

abbrev pub is_circular_form : Option CellForm → Bool
is_circular_form (Some Circular) = true
is_circular_form form = false

abbrev pub is_kept_circular : Table → Place → Bool
is_kept_circular table p = is_circular_form (form_at table p)

-- a cell, or a side that refers to a cell that is kept as circular
abbrev pub has_circle : Table → Place → List Cell → Bool
has_circle table (place.Cell a) referred = true
has_circle table (place.Side k) referred = list_any (λ b. is_kept_circular table (place.Cell b)) referred

-- a cell with a text that isn't to be decided, in an area
abbrev pub is_open_within : Book → List Cell → Area → Cell → Bool
is_open_within book decisions area b = is_open_text book decisions b && within area b

-- ---- sets that grow
abbrev pub Has : set.FinSet cell_cmp → Cell → Type 0
Has found c = set.contains found c ≡ true

-- how many cells of a list aren't found yet
unfoldable pub not_found : List Cell → set.FinSet cell_cmp → ℕ
not_found [] found = 0
not_found (c ∷ cells) found = (if set.contains found c then 0 else 1) + not_found cells found

-- cells are added to those that are found, and the new ones to those that are still to be followed
pub record AreAdded (cells : List Cell) (found : set.FinSet cell_cmp) (pending : List Cell) (later : set.FinSet cell_cmp) (waiting : List Cell) : Type 0 where
  pub kept : (c : Cell) → Has found c → Has later c
  pub added : (c : Cell) → Contains cells c → Has later c
  pub only : (c : Cell) → Has later c → Has found c ⊎ Contains cells c
  pub still : (c : Cell) → Contains pending c → Contains waiting c
  pub fresh : (c : Cell) → Has later c → Has found c ⊎ Contains waiting c
  pub from : (c : Cell) → Contains waiting c → Contains pending c ⊎ Contains cells c
  pub fewer : (texts : List Cell) → ((c : Cell) → Contains cells c → Contains texts c) → not_found texts later + length waiting ≤ not_found texts found + length pending

-- each found cell is needed, and so far those that aren't pending look at found ones alone
pub record IsSpreading (q : Asked) (found : set.FinSet cell_cmp) (pending : List Cell) : Type 0 where
  pub needed : (c : Cell) → Has found c → IsNeeded q (place.Cell c)
  pub there : (c : Cell) → Contains pending c → Has found c
  pub closed : (a b : Cell) → Has found a → PlaceLooksAt q (place.Cell a) b → Has found b ⊎ Contains pending a

-- where the search starts: at a root that is a cell and isn't to be decided, or at the cells at which one that is a side looks
abbrev pub StartsAt : Asked → Place → Cell → Type 0
StartsAt q (place.Cell a) b = (a ≡ b) × (numbered_in q.decisions a ≡ None)
StartsAt q (place.Side k) b = PlaceLooksAt q (place.Side k) b

abbrev pub IsStarted : Asked → set.FinSet cell_cmp → Place → Type 0
IsStarted q found p = (b : Cell) → StartsAt q p b → Has found b
