use Rattle.std.proofs.Common.{◌<◌, ◌≡◌, ap, arith, get_or, length, sym, ◌∙◌}
use Rattle.std.proofs.lemmas.List.{get_or_default}
use Rattle.solver_names.proofs.columns.place_among.Goals as goal

pub returns-then-top-clause-behind : goal.returns-then-top-clause-behind
returns-then-top-clause-behind c k d from below =
    let place : c.loop-place.place < length c.args.areas.now = omega (arith, from, below) in
    let own : (get_or c.args.areas.now c.loop-place.place d).top ≡ c.index-areas-place.result.top =
    ap (λ a. a.top) (get_or_default c.args.areas.now c.loop-place.place d c.index-areas-place.result place ∙ sym c.index-areas-place.is) in
    omega (arith, own, c.requires.rising c.loop-place.place k d from below, c.top.ensures.value, c.if-top.true)
