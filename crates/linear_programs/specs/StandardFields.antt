-- A `Standard` as a program.
use Rattle.std.specs.Prelude.{length, ◌≤◌}
use Rattle.linear_programs.specs.Program.{Program, IsRegular, AreCells}
use Rattle.linear_programs.specs.declared.standard.Standard.TheInside.{Inside}

-- the fields, as a program
abbrev pub program_of : Inside → Program
program_of s = record { columns = s.columns.items; objective = s.objective.items; constant = s.constant; rows = s.rows.items }

-- a row has one number per column, each cell one column or two opposite ones, and there are at most 1,024 columns and 1,538 rows
pub record IsSmall (p : Program) : Type 0 where
  pub regular : IsRegular p
  pub cells : AreCells p
  pub width : length p.objective ≤ 1024
  pub height : length p.rows ≤ 1538
