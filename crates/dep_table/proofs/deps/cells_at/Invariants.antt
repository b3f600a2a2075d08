use Rattle.std.proofs.Common.{◌≡◌, ◌<◌, ℕ, option_map, slice_get, slice_index, vec_len}
use Rattle.column_strips.specs.declared.formulas.Formula.{Formula}
use Rattle.dep_table.proofs.deps.cells_at.Given as goal

abbrev pub invariant-loop-place : goal.invariant-loop-place
invariant-loop-place l = record {
  count : vec_len l.found ≡ l.place-index;
  each : (p : ℕ) → p < l.place-index → slice_get l.found.items p ≡ option_map (λ (f : Formula). f.cell) (slice_get l.formulas (slice_index l.places p));
}
