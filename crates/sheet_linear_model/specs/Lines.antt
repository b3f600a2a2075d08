-- What is printed of a sheet's linear model.
use Rattle.std.specs.Prelude.{ℕ, if◌then◌else◌, List, [], ◌∷◌, zip, option_map, is_some}
use Rattle.cell_refs.specs.declared.cell.Cell.{Cell}
use Rattle.linear_models.specs.Bounds.{bounded}
use Rattle.linear_models.specs.Statement.{Constraint}
use Rattle.model_lines.specs.Lines.{ModelLines}
use Rattle.solver_names.specs.Statement.{RowOf}
use Rattle.sheet_linear_model.specs.Prepared.{Prepared, rows_of}

-- the numbers of the rows that aren't bounds of a decision
abbrev pub row_numbers : List RowOf → List Constraint → List ℕ
row_numbers (r ∷ rows) (c ∷ cs) = if is_some (bounded c) then row_numbers rows cs else r.number ∷ row_numbers rows cs
row_numbers _ _ = []

-- the numbers of the rows of the names that are rows of the model, in their order
abbrev pub numbers_of : Prepared → List ℕ
numbers_of p = row_numbers p.statement.rows (rows_of p.statement p.objective p.sides).rows

-- the cells to be decided, the objective, the rows of the model that stand for rows of the names, with their numbers, the marks, the
-- bounds and the decisions that are to be different
abbrev pub lines_of : Prepared → ModelLines
lines_of p = record {
  decisions = p.statement.decisions;
  aim = option_map (λ (c : Cell). (p.statement.goal, p.objective)) p.statement.objective;
  rows = zip (numbers_of p) p.model.rows;
  whole = p.model.whole;
  bounds = p.model.bounds;
  groups = p.statement.different;
}
