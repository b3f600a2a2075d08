use Rattle.std.proofs.Common.{◌≡◌, drop}
use Rattle.solver_names.specs.Texts.{area_on, cells_in}
use Rattle.solver_names.proofs.Gathered.{all_areas, behind}
use Rattle.named_cells.proofs.texts.cells_in.Given as goal

-- with those of the parts that are left the cells are all
abbrev pub invariant-loop-part : goal.invariant-loop-part
invariant-loop-part l = behind l.cells (all_areas (area_on l.book l.sheet.0) (drop l.part-index l.part-items)) ≡ cells_in l.book l.sheet.0 l.fn.text
