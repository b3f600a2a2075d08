use Rattle.std.proofs.Common.{ap, arith}
use Rattle.std.specs.FinMap as map
use Rattle.column_strips.proofs.Finding.{as_many}
use Rattle.column_strips.proofs.table.ReferenceTable.len.Goals as goal

pub returns : goal.returns
returns c =
    let many = as_many c.self.inside.formulas.items c.self.invariant.sorted in
    let same = ap map.len c.self.view_is in
    omega (arith, c.len.ensures, many, same, c.self.inside.formulas.ok.0)
