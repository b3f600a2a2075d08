use Rattle.std.proofs.Common.{◌≡◌}
use Rattle.cell_refs.specs.Areas.{cells_of}
use Rattle.workbook.specs.Kinds.{book_of}
use Rattle.sheet_quick.specs.Parameters.{other_cell}
use Rattle.sheet_quick.proofs.Walking.{other_from}
use Rattle.sheet_quick.proofs.parameters.other_in.Given as goal

-- the first such cell is that of the cells that are left
abbrev pub invariant-loop-place : goal.invariant-loop-place
invariant-loop-place l = other_cell (book_of l.book) l.adj (cells_of l.area) ≡ other_from (book_of l.book) l.adj l.area l.place
