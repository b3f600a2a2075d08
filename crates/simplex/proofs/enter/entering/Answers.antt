use Rattle.std.proofs.Common.{◌≡◌, length, subst, arith}
use Rattle.simplex.specs.Choices.{EntersAmong}
use Rattle.simplex.proofs.Entering.{all_gone_along}
use Rattle.simplex.proofs.enter.entering.Goals as goal

pub returns : goal.returns
returns c =
    let kept = c.kept-kept.result.now in
    let e : c.loop-place.place ≡ length kept = omega arith in
    all_gone_along c.args.dict.now c.args.row.now kept c.loop-place.best c.kept-kept.ensures c.requires
    (subst (λ n. EntersAmong c.args.dict.now c.args.row.now kept n c.loop-place.best) e c.loop-place.invariant)
