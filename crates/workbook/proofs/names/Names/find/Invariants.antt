use Rattle.std.proofs.Common.{◌≡◌, drop}
use Rattle.std.specs.Prelude.{option_map}
use Rattle.std.specs.List.{find}
use Rattle.cell_refs.specs.declared.cell.SheetId.{SheetId}
use Rattle.workbook.specs.State.{is_called}
use Rattle.workbook.proofs.names.Names.find.Given as goal

-- the name is none of those so far
abbrev pub invariant-loop-place : goal.invariant-loop-place
invariant-loop-place l =
    find (is_called (option_map (λ (s : SheetId). s.0) l.sheet) l.name) l.self
    ≡ find (is_called (option_map (λ (s : SheetId). s.0) l.sheet) l.name) (drop l.place l.self)
