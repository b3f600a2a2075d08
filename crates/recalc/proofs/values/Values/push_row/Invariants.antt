use Rattle.std.proofs.Common.{◌≡◌, ◌-◌, ◌++◌, map, true}
use Rattle.cell_grids.specs.AreaRows.{first_of_row}
use Rattle.recalculation.specs.Looking.{are_known, known_or_empty}
use Rattle.recalc.specs.Values.{value_at}
use Rattle.recalc.proofs.values.Values.push_row.Given as goal

-- the values of the row so far behind what was there
abbrev pub invariant-loop-col : goal.invariant-loop-col
invariant-loop-col l = record {
  known : are_known (value_at l.self) (first_of_row l.area l.row (l.col - l.area.left)) ≡ true;
  values : l.to.items ≡ l.initial.to.items ++ map (known_or_empty (value_at l.self)) (first_of_row l.area l.row (l.col - l.area.left));
}
