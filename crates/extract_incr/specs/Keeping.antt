-- Forms that are kept for a workbook: those of some formula cells that aren't to be decided, and of some sides.
use Rattle.std.specs.Prelude.{◌≡◌, ℕ, ◌&&◌, Bool, false, not, List, ◌++◌, map, filter, length, Option, None, Some, is_some, slice_get}
use Rattle.std.specs.FinMap.{keys}
use Rattle.cell_refs.specs.declared.cell.Cell.{Cell}
use Rattle.formula_ast.specs.Tree.{Tree}
use Rattle.recalculation.specs.Entries.{Book, entry}
use Rattle.recalculation.specs.Walks.{is_circular, is_formula}
use Rattle.cell_refs.specs.declared.place.Place.{Place}
use Rattle.cell_refs.specs.declared.place.Place.TheVariants as place
use Rattle.needed_forms.specs.FromFormExtraction.{CellForm}
use Rattle.needed_forms.specs.FromFormExtraction.{refers_to_circle}
use Rattle.needed_forms.specs.FromFormExtraction.{numbered_in}
use Rattle.needed_forms.specs.FromExtract.{Table, form_at}
use Rattle.needed_forms.specs.FromSheetProblems.{Sides, tree_of}
use Rattle.needed_forms.specs.FromFormNeeds.{Asked}
use Rattle.needed_forms.specs.FromNeededCells.{AreForms, HasEntry, IsSettled}

-- the cells to be decided, the sides, and the forms that are kept
pub record Kept : Type 0 where
  pub decisions : List Cell
  pub sides : Sides
  pub table : Table

-- each form kept is that of its place in the workbook
abbrev pub AreKept : Book → Kept → Type 0
AreKept book k = AreForms book k.sides k.decisions k.table

-- and none that can be kept is missing
abbrev pub AllAreKept : Book → Kept → Type 0
AllAreKept book k = IsSettled book k.sides k.decisions k.table

-- ---- stale places: those whose forms can be kept and aren't
pub record IsStale (book : Book) (k : Kept) (p : Place) : Type 0 where
  pub entry : HasEntry book k.sides k.decisions p
  pub none : form_at k.table p ≡ None

-- the places whose forms can be kept, each once where no two sides have one number
abbrev pub entries_of : Book → Kept → List Place
entries_of book k =
    map (λ a. place.Cell a) (filter (λ a. is_formula (entry book a) && not (is_some (numbered_in k.decisions a))) (keys book.texts))
    ++ map (λ (side : ℕ × Tree). place.Side side.0) k.sides

abbrev pub is_missing : Table → Place → Bool
is_missing table p = not (is_some (form_at table p))

-- how many places are stale
abbrev pub stale_count : Book → Kept → ℕ
stale_count book k = length (filter (is_missing k.table) (entries_of book k))

-- ---- circular places, whose forms are known without a look at what they say
abbrev pub is_circular_side : Book → List Cell → Option Tree → Bool
is_circular_side book decisions None = false
is_circular_side book decisions (Some t) = refers_to_circle book (λ c. is_some (numbered_in decisions c)) t

-- a circular cell, or a side that refers to one
abbrev pub is_circular_place : Book → Sides → List Cell → Place → Bool
is_circular_place book sides decisions (place.Cell a) = is_circular book (λ c. is_some (numbered_in decisions c)) a
is_circular_place book sides decisions (place.Side k) = is_circular_side book decisions (tree_of sides k)

-- how many forms are to be made: those of stale places that aren't circular
abbrev pub count_to_make : Book → Kept → ℕ
count_to_make book k = length (filter (λ p. not (is_circular_place book k.sides k.decisions p) && is_missing k.table p) (entries_of book k))

-- no two sides have one number
abbrev pub HaveOwnNumbers : Sides → Type 0
HaveOwnNumbers sides = (i j : ℕ) (s t : ℕ × Tree) → slice_get sides i ≡ Some s → slice_get sides j ≡ Some t → s.0 ≡ t.0 → i ≡ j

-- ---- changes
-- what was kept is kept, for the same cells to be decided and the same sides
pub record GrowsTo (before after : Kept) : Type 0 where
  pub decisions : after.decisions ≡ before.decisions
  pub sides : after.sides ≡ before.sides
  pub kept : (p : Place) (f : CellForm) → form_at before.table p ≡ Some f → form_at after.table p ≡ Some f

-- the places from which a model is to be made, over what is kept
abbrev pub asked_from : Book → Kept → List Place → Asked
asked_from book k roots = record { book = book; sides = k.sides; decisions = k.decisions; roots = roots }
