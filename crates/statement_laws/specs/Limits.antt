-- How much the names of a sheet may state, as numbers.
use Rattle.std.specs.Prelude.{◌≡◌}
use Rattle.solver_names.specs.declared.limits.TheConstants.{MOST_CONSTRAINTS, MOST_DECISIONS, MOST_ROWS}

-- the limits that definitions, code and answers share
pub record LimitsOfNamesAre : Type 0 where
  pub constraints : MOST_CONSTRAINTS ≡ 256
  pub decisions : MOST_DECISIONS ≡ 512
  pub rows : MOST_ROWS ≡ 256
