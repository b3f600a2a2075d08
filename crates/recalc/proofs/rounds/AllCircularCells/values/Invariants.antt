use Rattle.std.proofs.Common.{◌≡◌, Some, map, true}
use Rattle.std.specs.List.{range_with_len}
use Rattle.cell_refs.specs.Areas.{cell_at}
use Rattle.cell_refs.specs.declared.error_kind.ErrorKind.TheVariants as kind
use Rattle.recalculation.specs.Looking.{are_known, known_or_empty}
use Rattle.sheet_model.specs.declared.value.Value.TheVariants.{Error}
use Rattle.recalc.proofs.rounds.AllCircularCells.values.Given as goal

-- the values so far
abbrev pub invariant-loop : goal.invariant-loop
invariant-loop l = record {
  known : are_known (λ _. Some (Error kind.Circular)) (map (cell_at l.area) (range_with_len 0 l.counter)) ≡ true;
  values : l.values.items ≡ map (known_or_empty (λ _. Some (Error kind.Circular))) (map (cell_at l.area) (range_with_len 0 l.counter));
}
