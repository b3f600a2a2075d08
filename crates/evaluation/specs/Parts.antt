-- A part of a formula as what a function takes of it: the cells at which it looks, its narrow value, and its cells where it is a
-- reference.
use Rattle.std.specs.Prelude.{Option}
use Rattle.cell_refs.specs.declared.cell.Cell.{Cell}
use Rattle.formula_ast.specs.Tree.{Tree}
use Rattle.sheet_model.specs.declared.value.Value.{Value}
use Rattle.sheet_model.specs.declared.grid.Arg.{Arg}
use Rattle.recalculation.specs.Looks.{Argument}
use Rattle.recalculation.specs.Looking.{looked_at, outcome_of, reference_in}

-- a part of a formula, where the values of some cells are known
abbrev pub part_of : (Cell → Option Value) → Tree → Argument Arg
part_of known t = record { looks = looked_at known t; outcome = outcome_of known t (looked_at known t); reference = reference_in t }
