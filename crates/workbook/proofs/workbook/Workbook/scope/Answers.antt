use Rattle.std.proofs.Common.{subst}
use Rattle.std.specs.Prelude.{All}
use Rattle.workbook.specs.Scoped.{IsShort}
use Rattle.workbook.proofs.workbook.Workbook.scope.Goals as goal

pub returns-clause-short : goal.returns-clause-short
returns-clause-short c = subst (λ s. All IsShort s.names) c.self.view_is c.self.invariant.kept.short
