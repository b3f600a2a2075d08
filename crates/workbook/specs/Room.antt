-- Room for one more text.
use Rattle.std.specs.Prelude.{◌≤◌, ℕ, List}
use Rattle.std.specs.FinMap.{insert}
use Rattle.cell_refs.specs.declared.cell.Cell.{Cell}
use Rattle.recalculation.specs.Entries.{Contents}
use Rattle.cell_refs.specs.declared.limits.TheConstants.{FORMULAS, TEXTS}
use Rattle.workbook.specs.State.{formula_count, text_count}

-- with the text in the cell there are not too many
pub record HasRoom (contents : Contents) (cell : Cell) (text : List ℕ) : Type 0 where
  pub texts : text_count (insert contents cell text) ≤ TEXTS
  pub formulas : formula_count (insert contents cell text) ≤ FORMULAS
