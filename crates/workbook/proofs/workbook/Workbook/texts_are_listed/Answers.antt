use Rattle.std.proofs.Common.{subst}
use Rattle.workbook.specs.Listed.{TextsAreListed}
use Rattle.workbook.proofs.ListedCells.{all_listed}
use Rattle.workbook.proofs.workbook.Workbook.texts_are_listed.Goals as goal

pub returns : goal.returns
returns c =
    subst TextsAreListed c.self.view_is (all_listed c.self.inside.sheets c.self.inside.names c.self.inside.cells.entries c.self.inside.formulas c.self.invariant.kept)
