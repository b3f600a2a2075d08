use Rattle.std.proofs.Common.{◌≡◌, drop}
use Rattle.std.specs.Prelude.{◌==◌}
use Rattle.std.specs.List.{list_any}
use Rattle.cell_refs.specs.Areas.{Area}
use Rattle.solver_names.proofs.columns.has_sheet.Given as goal

-- an area that lies there is among those that are left
abbrev pub invariant-loop-area : goal.invariant-loop-area
invariant-loop-area l = list_any (λ (a : Area). a.sheet.0 == l.sheet.0) l.areas ≡ list_any (λ (a : Area). a.sheet.0 == l.sheet.0) (drop l.area-index l.areas)
