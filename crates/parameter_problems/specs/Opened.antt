-- A sheet's statement where some cells of numbers, the parameters, are open beside the decision cells, and contents in which the
-- parameters hold values.
use Rattle.std.specs.Prelude.{◌≡◌, ℕ, List, ◌++◌, Some, None}
use Rattle.cell_refs.specs.declared.cell.Cell.{Cell}
use Rattle.recalculation.specs.Entries.{Book, entry}
use Rattle.affine_forms.specs.Forms.{Assignment}
use Rattle.form_extraction.specs.Places.{numbered_in}
use Rattle.solver_names.specs.Statement.{Statement}
use Rattle.written_cells.specs.Written.{Says}

-- the statement with the parameters behind the decision cells
abbrev pub opened : Statement → List Cell → Statement
opened s parameters = record {
  sheet = s.sheet;
  decisions = s.decisions ++ parameters;
  objective = s.objective;
  goal = s.goal;
  rows = s.rows;
  whole = s.whole;
  binary = s.binary;
  explicit = s.explicit;
  different = s.different;
  not_negative = s.not_negative;
}

-- each parameter, other than a decision cell, says its value, and each cell that is neither says what it said
pub record HoldsValues (before : Book) (decisions parameters : List Cell) (y : Assignment) (after : Book) : Type 0 where
  pub values : (c : Cell) (k : ℕ) → numbered_in decisions c ≡ None → numbered_in parameters c ≡ Some k → Says (entry after c) (y k)
  pub others : (c : Cell) → numbered_in decisions c ≡ None → numbered_in parameters c ≡ None → entry after c ≡ entry before c
