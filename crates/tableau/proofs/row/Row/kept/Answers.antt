use Rattle.std.proofs.Common.{sym, subst}
use Rattle.tableau.specs.Entries.{AreEntries, spread}
use Rattle.tableau.proofs.Spread.{spread_entries}
use Rattle.tableau.proofs.row.Row.kept.Goals as goal

pub returns : goal.returns
returns c =
    let i = c.self.inside in
    subst (λ r. AreEntries r c.deref.result.now) c.self.view_is
    (subst (AreEntries (spread i.rest i.columns i.kept.items)) (sym c.deref.ensures.value) (spread_entries i.rest i.columns i.kept.items c.self.invariant.sparse))
