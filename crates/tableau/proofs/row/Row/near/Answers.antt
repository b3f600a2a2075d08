use Rattle.std.proofs.Common.{◌≡◌, ◌<◌, ◌∙◌, suc, sym, ap, subst, length, arith}
use Rattle.fractions.specs.Vectors.{at}
use Rattle.tableau.specs.Entries.{pair_at, IsGap}
use Rattle.tableau.proofs.Searching.{read}
use Rattle.tableau.proofs.Changes.{entry_there, entry_gap}
use Rattle.tableau.proofs.Spread.{length-spread, at-spread}
use Rattle.tableau.proofs.row.Row.near.Goals as goal

pub returns-in-Ok : goal.returns-in-Ok
returns-in-Ok c =
    let i = c.self.inside in
    let e : suc i.columns ≡ length c.args.self.now = sym (length-spread i.rest i.columns i.kept.items) ∙ ap length c.self.view_is in
    let there : (c.in-Ok.place < length i.kept.items) × ((pair_at i.kept.items c.in-Ok.place).0 ≡ c.args.col) =
    subst (λ k. (c.in-Ok.place < length k) × ((pair_at k c.in-Ok.place).0 ≡ c.args.col)) c.deref.ensures.value c.in-Ok.ensures in
    let pair = read i.kept.items c.in-Ok.place c.index.result.now there.0 c.index.ensures in
    entry_there i.kept.items c.in-Ok.place c.args.col c.index.result.now c.self.invariant.sparse.rising there.0 there.1 pair
    ∙ sym (at-spread i.rest i.columns i.kept.items c.args.col (omega (arith, c.requires))) ∙ ap (λ r. at r (suc c.args.col)) c.self.view_is

pub returns-in-Err : goal.returns-in-Err
returns-in-Err c =
    let i = c.self.inside in
    let e : suc i.columns ≡ length c.args.self.now = sym (length-spread i.rest i.columns i.kept.items) ∙ ap length c.self.view_is in
    let gap : IsGap i.kept.items c.args.col c.in-Err.place = subst (λ k. IsGap k c.args.col c.in-Err.place) c.deref.ensures.value c.in-Err.ensures in
    entry_gap i.kept.items c.in-Err.place c.args.col c.zero.result gap c.zero.ensures
    ∙ sym (at-spread i.rest i.columns i.kept.items c.args.col (omega (arith, c.requires))) ∙ ap (λ r. at r (suc c.args.col)) c.self.view_is
