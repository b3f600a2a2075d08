-- The cells with a text, as they are listed.
use Rattle.std.specs.Prelude.{◌≡◌, ◌↔◌, true, List, map, Contains, option_map}
use Rattle.std.specs.FinMap.{contains_key}
use Rattle.std.specs.List.Sorted.{IsStrictlySortedBy}
use Rattle.cell_refs.specs.declared.cell.Cell.{Cell}
use Rattle.cell_refs.specs.Cells.{cell_cmp}
use Rattle.recalculation.specs.Entries.{Contents, entry}
use Rattle.workbook.specs.declared.text_cell.TextCell.{TextCell}
use Rattle.workbook.specs.Contents.{content_of, kind_of, tree_of}
use Rattle.workbook.specs.Kinds.{book_of}
use Rattle.workbook.specs.State.{State}

-- a cell is listed with its text, its kind and its tree
pub record IsRead (state : State) (e : TextCell) : Type 0 where
  pub text : e.text.now ≡ content_of state.contents e.cell
  pub kind : e.kind ≡ kind_of (entry (book_of state) e.cell)
  pub tree : option_map (λ t. t.now) e.tree ≡ tree_of (entry (book_of state) e.cell)

abbrev pub listed_cells : List TextCell → List Cell
listed_cells es = map (λ (e : TextCell). e.cell) es

-- those cells are listed that have a text, by sheet, row and column
pub record AreTextCells (contents : Contents) (cells : List Cell) : Type 0 where
  pub sorted : IsStrictlySortedBy cell_cmp cells
  pub all : (q : Cell) → Contains cells q ↔ (contains_key contents q ≡ true)
