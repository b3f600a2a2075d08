use Rattle.std.proofs.Common.{◌<◌, ℕ, map, string_bytes}
use Rattle.cell_refs.specs.Names.{IsNamed}
use Rattle.cell_refs.proofs.names.place_of.Given as goal

-- none so far has the name
abbrev pub invariant-loop-place : goal.invariant-loop-place
invariant-loop-place l = (k : ℕ) → k < l.place → ¬ (IsNamed (map string_bytes l.names) l.name k)
