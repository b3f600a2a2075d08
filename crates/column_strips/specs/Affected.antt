-- A cell, and those from whose formulas references lead to it.
use Rattle.std.specs.Prelude.{◌≡◌, ◌↔◌, ◌⊎◌, ◌<◌, ◌≤◌, ℕ, suc, Bool, true, ◌||◌, List, length, Some, slice_get}
use Rattle.std.specs.FinMap.{contains_key, get}
use Rattle.std.specs.List.{list_any}
use Rattle.std.specs.Ordering.{eq_by_cmp}
use Rattle.cell_refs.specs.Cells.{cell_cmp}
use Rattle.cell_refs.specs.declared.cell.Cell.{Cell}
use Rattle.column_strips.specs.Formulas.{References, refers_by}

-- whether the formula that is kept for a cell refers to another
abbrev pub refers_in : References → Cell → Cell → Bool
refers_in references c d = refers_by (get references c) d

-- references lead from a cell to another one
pub data Reaches (refers : Cell → Cell → Bool) (to : Cell) : Cell → Type 0 where
  by_one : (c : Cell) → refers c to ≡ true → Reaches refers to c
  by_more : (c d : Cell) → refers c d ≡ true → Reaches refers to d → Reaches refers to c

-- a cell itself, and each cell that reaches it
abbrev pub IsAtOrReaches : (Cell → Cell → Bool) → Cell → Cell → Type 0
IsAtOrReaches refers to c = (c ≡ to) ⊎ Reaches refers to c

-- a set has a cell and the cells that reach it, and no others
abbrev pub AreAffected : (Cell → Cell → Bool) → Cell → (Cell → Bool) → Type 0
AreAffected refers from has = (c : Cell) → has c ≡ true ↔ IsAtOrReaches refers from c

-- ---- on the way, with a list of the cells that have been found
abbrev pub has_cell : List Cell → Cell → Bool
has_cell cells c = list_any (eq_by_cmp cell_cmp c) cells

-- the cells of a list reach the first, and those that refer to one of its cells before a place are in it
pub record IsSpreading (refers : Cell → Cell → Bool) (from : Cell) (found : List Cell) (next : ℕ) : Type 0 where
  pub start : slice_get found 0 ≡ Some from
  pub sound : (c : Cell) → has_cell found c ≡ true → IsAtOrReaches refers from c
  pub closed : (p : ℕ) (c d : Cell) → p < next → slice_get found p ≡ Some d → refers c d ≡ true → has_cell found c ≡ true

-- the cells that refer to one are added behind those that were found
pub record IsFollowed (refers : Cell → Cell → Bool) (to : Cell) (found longer : List Cell) : Type 0 where
  pub kept : (p : ℕ) (c : Cell) → slice_get found p ≡ Some c → slice_get longer p ≡ Some c
  pub has : (c : Cell) → has_cell longer c ≡ (has_cell found c || refers c to)

-- each behind the first is the cell of a formula
abbrev pub AreFormulas : References → List Cell → Type 0
AreFormulas references found = (p : ℕ) (c : Cell) → slice_get found (suc p) ≡ Some c → contains_key references c ≡ true

-- what is flagged in a list has been followed
pub record AreDone (refers : Cell → Cell → Bool) (found : List Cell) (done : List Bool) : Type 0 where
  pub few : length done ≤ length found
  pub closed : (p : ℕ) (c d : Cell) → slice_get done p ≡ Some true → slice_get found p ≡ Some d → refers c d ≡ true → has_cell found c ≡ true
