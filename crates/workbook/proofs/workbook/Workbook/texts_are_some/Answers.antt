use Rattle.std.proofs.Common.{subst}
use Rattle.workbook.specs.Filled.{TextsAreSome}
use Rattle.workbook.proofs.Filled.{all_some}
use Rattle.workbook.proofs.workbook.Workbook.texts_are_some.Goals as goal

pub returns : goal.returns
returns c =
    subst TextsAreSome c.self.view_is (all_some c.self.inside.sheets c.self.inside.names c.self.inside.cells.entries c.self.inside.formulas c.self.invariant.kept)
