-- What the names of a sheet state, or the first fault in them.
use Rattle.std.specs.Prelude.{ℕ, suc, ◌==◌, ◌&&◌, Bool, true, false, List, [], ◌∷◌, map, filter, filter_map, position, if◌then◌else◌, Option, Some, None, Result, Ok, Err}
use Rattle.std.specs.List.{list_any}
use Rattle.fractions.specs.Rational.{ℚ, zero_ℚ}
use Rattle.optimality.specs.Problem.{Goal, greatest, least, reach}
use Rattle.cell_refs.specs.Areas.{Area, within}
use Rattle.cell_refs.specs.Cells.{is_same_cell}
use Rattle.cell_refs.specs.declared.cell.Cell.{Cell}
use Rattle.optimality.specs.Kinds.{relation_of}
use Rattle.optimality.specs.declared.kinds.Relation.{Relation}
use Rattle.optimality.specs.declared.kinds.Relation.TheVariants.{AtLeast}
use Rattle.workbook.specs.State.{State}
use Rattle.cell_refs.specs.declared.place.Place.{Place}
use Rattle.solver_names.specs.declared.faults.Fault.{Fault}
use Rattle.solver_names.specs.declared.said.Said.{Said}
use Rattle.solver_names.specs.declared.said.Said.TheVariants.{Says}
use Rattle.solver_names.specs.declared.constraints.Code.{Code}
use Rattle.solver_names.specs.declared.constraints.Code.TheVariants as code
use Rattle.solver_names.specs.declared.constraints.Constraint.{Constraint}
use Rattle.solver_names.specs.Constraints.{left_cells}
use Rattle.solver_names.specs.Statement.{RowOf, Statement}
use Rattle.solver_names.specs.Texts.{is_absent, or_else}
use Rattle.solver_names.specs.Read.{Read, read_in}
use Rattle.solver_names.specs.Faults.{all_rows, decisions_of, faults, first}

-- ---- rows numbered from 1 on
abbrev pub numbered : ℕ → List (Relation × Cell × Place) → List RowOf
numbered n [] = []
numbered n (row ∷ rows) = record { number = n; left = row.1; relation = relation_of row.0; right = row.2 } ∷ numbered (suc n) rows

-- ---- marks
-- the code of a constraint is this one
abbrev pub is_code : Code → Said Code → Bool
is_code (code.Related AtLeast) (Says (code.Related AtLeast)) = true
is_code code.Whole (Says code.Whole) = true
is_code code.Binary (Says code.Binary) = true
is_code code.Different (Says code.Different) = true
is_code _ _ = false

-- the cell stands in the left side
abbrev pub is_left : Said Area → Cell → Bool
is_left (Says a) cell = within a cell
is_left _ cell = false

-- the cell stands in the left side of a constraint with this code
abbrev pub is_marked_by : Code → Cell → Constraint → Bool
is_marked_by code cell c = is_code code c.code && is_left c.left cell

abbrev pub is_marked : Code → List Constraint → Cell → Bool
is_marked code cs cell = list_any (is_marked_by code cell) cs

-- the numbers, from n on, of the cells that pass a test
abbrev pub numbers_from : ℕ → (Cell → Bool) → List Cell → List ℕ
numbers_from n test [] = []
numbers_from n test (cell ∷ cells) = if test cell then n ∷ numbers_from (suc n) test cells else numbers_from (suc n) test cells

-- those of the cells that stand in the left side of a constraint with this code
abbrev pub marked : Code → List Constraint → List Cell → List ℕ
marked code cs cells = numbers_from 0 (is_marked code cs) cells

-- ---- cells that are to be different
-- the left sides of the constraints that ask for it
abbrev pub different_cells : List Constraint → List (List Cell)
different_cells cs = map (λ (c : Constraint). left_cells c.left) (filter (λ (c : Constraint). is_code code.Different c.code) cs)

-- the numbers that cells have among those to be decided
abbrev pub numbers_of : List Cell → List Cell → List ℕ
numbers_of decisions cells = filter_map (λ (c : Cell). position (is_same_cell c) decisions) cells

-- for each such constraint the numbers of its left cells
abbrev pub different : List Constraint → List Cell → List (List ℕ)
different cs decisions = map (numbers_of decisions) (different_cells cs)

-- ---- what is wanted
abbrev pub goal_by : ℕ → ℚ → Goal
goal_by n value = if n == 3 then reach value else if n == 2 then least else greatest

abbrev pub said_objective : Said Cell → Option Cell
said_objective (Says c) = Some c
said_objective _ = None

-- greatest where nothing else is said, and where there is no objective
abbrev pub goal_in : Read → Goal
goal_in r = if is_absent r.objective then greatest else goal_by (or_else r.goal 1) (or_else r.value zero_ℚ)

-- ---- the statement
abbrev pub stated : ℕ → Read → Statement
stated sheet r = record {
  sheet = sheet;
  decisions = decisions_of r;
  objective = said_objective r.objective;
  goal = goal_in r;
  rows = numbered 1 (all_rows r.constraints);
  whole = marked code.Whole r.constraints (decisions_of r);
  binary = marked code.Binary r.constraints (decisions_of r);
  explicit = marked (code.Related AtLeast) r.constraints (decisions_of r);
  different = different r.constraints (decisions_of r);
  not_negative = or_else r.negative 1 == 1;
}

abbrev pub unless_fault : Statement → Option Fault → Result Statement Fault
unless_fault s None = Ok s
unless_fault s (Some f) = Err f

-- what the names of a sheet state, or the first fault
abbrev pub statement_in : State → ℕ → Result Statement Fault
statement_in book sheet = unless_fault (stated sheet (read_in book sheet)) (first (faults (read_in book sheet)))
