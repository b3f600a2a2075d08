use Rattle.std.proofs.Common.{length, map}
use Rattle.std.specs.Prelude.{string_bytes, zip}
use Rattle.workbook.proofs.Room.{IsCounted}
use Rattle.workbook.proofs.workbook.Workbook.formulas_with.Given as goal

-- the texts so far have been counted
abbrev pub invariant-loop-cells : goal.invariant-loop-cells
invariant-loop-cells l =
    IsCounted l.self.contents (zip l.fn.cells (map string_bytes l.fn.texts)) (zip l.cells (map string_bytes l.texts)) l.cells l.count l.formulas

-- fewer cells are left
abbrev pub decreases-loop-cells : goal.decreases-loop-cells
decreases-loop-cells l = length l.cells
