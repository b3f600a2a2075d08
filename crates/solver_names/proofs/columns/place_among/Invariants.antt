use Rattle.std.proofs.Common.{◌≤◌, ◌<◌, ℕ, get_or}
use Rattle.cell_refs.specs.Areas.{Area}
use Rattle.solver_names.proofs.columns.place_among.Given as goal

-- none so far has a lower top
abbrev pub invariant-loop-place : goal.invariant-loop-place
invariant-loop-place l = (k : ℕ) (d : Area) → k < l.place → (get_or l.areas k d).top ≤ l.top
