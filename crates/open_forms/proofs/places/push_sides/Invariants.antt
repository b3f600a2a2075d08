use Rattle.std.proofs.Common.{◌≡◌, ◌++◌, flat_map, map, take}
use Rattle.solver_names.specs.Answers.{row_of}
use Rattle.sheet_linear_model.proofs.Rooted.{places}
use Rattle.open_forms.proofs.places.push_sides.Given as goal

-- the sides of the rows so far are put behind the others
abbrev pub invariant-loop-row : goal.invariant-loop-row
invariant-loop-row l = l.roots.items ≡ l.initial.roots.items ++ flat_map places (map row_of (take l.row-index l.rows))
