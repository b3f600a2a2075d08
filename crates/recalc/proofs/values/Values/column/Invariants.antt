use Rattle.std.proofs.Common.{◌≡◌, ◌-◌, map, true}
use Rattle.recalculation.specs.Looking.{are_known, known_or_empty}
use Rattle.recalc.specs.Values.{value_at}
use Rattle.recalc.proofs.AreaValues.{rows}
use Rattle.recalc.proofs.values.Values.column.Given as goal

-- the values of the rows so far
abbrev pub invariant-loop-row : goal.invariant-loop-row
invariant-loop-row l = record {
  known : are_known (value_at l.self) (rows (value_at l.self) l.area (l.row - l.area.top)) ≡ true;
  values : l.values.items ≡ map (known_or_empty (value_at l.self)) (rows (value_at l.self) l.area (l.row - l.area.top));
}
