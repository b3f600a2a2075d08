use Rattle.std.proofs.Common.{arith, []}
use Rattle.search_paths.proofs.Growing.{grown-length}
use Rattle.search_paths.proofs.paths.Paths.len.Goals as goal

pub returns : goal.returns
returns c =
    rw (← c.self.view_is)
    (let e = grown-length [] c.self.inside.origins.items in let k = c.self.inside.origins.ok.0 in let h = c.len.ensures in omega (arith, e, k, h))
