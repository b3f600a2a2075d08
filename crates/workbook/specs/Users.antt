-- The cells in whose formulas names stand.
use Rattle.std.specs.Prelude.{◌≡◌, ℕ, Bool, true, false, List, map, Option, Some, None, ⊤}
use Rattle.std.specs.BTreeMap.{get_by_text}
use Rattle.std.specs.BTreeSet.{BTreeSet, contains}
use Rattle.std.specs.Char.{to_ascii_lowercase}
use Rattle.cell_refs.specs.declared.cell.Cell.{Cell}
use Rattle.cell_refs.specs.Cells.{cell_cmp}
use Rattle.formula_ast.specs.Tree.{Tree, Trees}
use Rattle.workbook.specs.declared.held.Held.{Held}
use Rattle.workbook.specs.declared.users.Users.{Users}
use Rattle.workbook.specs.Held.{IsKept, held_at, spelled_tree}
use Rattle.workbook.specs.State.{Name}
use Rattle.workbook.specs.Uses.{any_use, is_wanted, some_use}

-- the cells of a name, in any case of ASCII letters
abbrev pub users_of : Users → List ℕ → Option (BTreeSet Cell)
users_of users name = get_by_text users.cells (map to_ascii_lowercase name)

abbrev pub has_cell : Option (BTreeSet Cell) → Cell → Bool
has_cell None cell = false
has_cell (Some cells) cell = contains cell_cmp cells cell

-- whether the cell is among those of the name
abbrev pub knows : Users → List ℕ → Cell → Bool
knows users name cell = has_cell (users_of users name) cell

-- each name has at least the cells that it had
abbrev pub Grows : Users → Users → Type 0
Grows before after = (name : List ℕ) (cell : Cell) → knows before name cell ≡ true → knows after name cell ≡ true

-- the cell is among those of each name in a tree
abbrev pub KnowsUses : Users → Cell → Tree → Type 0
KnowsUses users cell t = (name : List ℕ) → some_use (is_wanted (Some name)) t ≡ true → knows users name cell ≡ true

abbrev pub KnowsAllUses : Users → Cell → Trees → Type 0
KnowsAllUses users cell ts = (name : List ℕ) → any_use (is_wanted (Some name)) ts ≡ true → knows users name cell ≡ true

abbrev pub IsCovered : Users → Cell → Option Tree → Type 0
IsCovered users cell None = ⊤
IsCovered users cell (Some t) = KnowsUses users cell t

-- each cell is among those of the names in the formula that is held of it
abbrev pub AllAreCovered : Users → List (Cell × Held) → Type 0
AllAreCovered users es = (cell : Cell) (held : Held) → held_at es cell ≡ Some held → IsCovered users cell (spelled_tree held)

-- what holds of a workbook with the cells of its names
pub record IsIndexed (sheets : List (List ℕ)) (names : List Name) (users : Users) (es : List (Cell × Held)) (formulas : ℕ) : Type 0 where
  pub kept : IsKept sheets names es formulas
  pub covered : AllAreCovered users es
