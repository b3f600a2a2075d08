use Rattle.std.proofs.Common.{◌≡◌, drop}
use Rattle.std.specs.Prelude.{flat_map}
use Rattle.cell_refs.specs.Areas.{cells_of}
use Rattle.workbook.specs.Kinds.{book_of}
use Rattle.sheet_quick.specs.Parameters as parameters
use Rattle.sheet_quick.proofs.parameters.other_cell.Given as goal

-- it is that of the areas that are left
abbrev pub invariant-loop-area : goal.invariant-loop-area
invariant-loop-area l =
    parameters.other_cell (book_of l.book) l.adj (flat_map cells_of l.areas) ≡ parameters.other_cell (book_of l.book) l.adj (flat_map cells_of (drop l.area-index l.areas))
