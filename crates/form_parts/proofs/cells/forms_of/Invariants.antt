use Rattle.std.proofs.Common.{◌≡◌, drop, length}
use Rattle.calculations.proofs.CalculationLaws.{behind_answers}
use Rattle.recalculation.specs.Looks.{elements}
use Rattle.form_parts.proofs.cells.forms_of.Given as goal

-- the forms so far, and then those of the rest
abbrev pub invariant-loop-cell : goal.invariant-loop-cell
invariant-loop-cell g l = record {
  forms : elements (g.C.FormsOfCells.forms l.forms) l.cells ≡ behind_answers l.items.items (elements (g.C.FormsOfCells.forms l.forms) (drop l.cell-index l.cells));
  count : length l.items.items ≡ l.cell-index;
}
