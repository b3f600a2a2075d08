-- All that the names of a sheet say.
use Rattle.std.specs.Prelude.{ℕ, List}
use Rattle.fractions.specs.Rational.{ℚ}
use Rattle.cell_refs.specs.declared.cell.Cell.{Cell}
use Rattle.workbook.specs.State.{State}
use Rattle.solver_names.specs.declared.limits.TheConstants.{MOST_CONSTRAINTS}
use Rattle.solver_names.specs.declared.name.Name.TheVariants as name
use Rattle.solver_names.specs.declared.names.Names.{Names}
use Rattle.solver_names.specs.declared.said.Said.{Said}
use Rattle.solver_names.specs.declared.constraints.Constraint.{Constraint}
use Rattle.solver_names.specs.Texts.{cell_in, cells_in, named, number_in, or_else, said_by, whole_in}
use Rattle.solver_names.specs.Constraints.{constraints}

pub record Read : Type 0 where
  pub decisions : Said (List Cell)
  pub objective : Said Cell
  pub goal : Said ℕ
  pub value : Said ℚ
  pub negative : Said ℕ
  pub count : Said ℕ
  pub constraints : List Constraint

abbrev pub count_said : State → ℕ → Said ℕ
count_said book sheet = said_by (whole_in 0 MOST_CONSTRAINTS) (named book sheet name.Count)

-- there are as many constraints as are said, and none where nothing is said
abbrev pub read_in : State → ℕ → Read
read_in book sheet = record {
  decisions = said_by (cells_in book sheet) (named book sheet name.Decisions);
  objective = said_by (cell_in book sheet) (named book sheet name.Objective);
  goal = said_by (whole_in 1 3) (named book sheet name.Goal);
  value = said_by number_in (named book sheet name.Value);
  negative = said_by (whole_in 1 2) (named book sheet name.Negative);
  count = count_said book sheet;
  constraints = constraints book sheet (or_else (count_said book sheet) 0);
}

-- what has been read, as the code holds it
abbrev pub read_of : Names → Read
read_of n = record {
  decisions = n.decisions;
  objective = n.objective;
  goal = n.goal;
  value = n.value;
  negative = n.negative;
  count = n.count;
  constraints = n.constraints.items;
}
