use Rattle.std.proofs.Common.{◌≡◌, drop, flat_map}
use Rattle.calculations.proofs.CalculationLaws.{behind_answers}
use Rattle.cell_refs.specs.Areas.{cells_of}
use Rattle.recalculation.specs.Looks.{elements}
use Rattle.evaluation.proofs.values.values_of_areas.Given as goal

-- the values so far, and then those of the rest
abbrev pub invariant-loop-area : goal.invariant-loop-area
invariant-loop-area g l = elements (g.C.Cells.known l.cells) (flat_map cells_of l.areas) ≡ behind_answers l.values.items (elements (g.C.Cells.known l.cells) (flat_map cells_of (drop l.area-index l.areas)))
