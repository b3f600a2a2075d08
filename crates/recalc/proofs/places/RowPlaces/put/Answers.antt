use Rattle.std.proofs.Common.{◌∙◌, cond, ap, arith, get_or, refl}
use Rattle.std.specs.Prelude.{◌==◌}
use Rattle.recalc.proofs.Grown.{grown, put_at}
use Rattle.recalc.proofs.places.RowPlaces.put.Goals as goal

pub loop-init : goal.loop-init
loop-init c = (omega (arith, c.len-counter.ensures), λ n. refl)

pub loop-preserved : goal.loop-preserved
loop-preserved c = (
  omega (arith, c.loop.invariant.0, c.in_ok-push.ensures.len),
  λ n. ap (λ l. get_or l n 0) c.in_ok-push.ensures.items ∙ grown c.loop.self-inside.places.items n 0 ∙ c.loop.invariant.1 n,
)

pub index_mut-requires : goal.index_mut-requires
index_mut-requires c = omega (arith, c.loop.invariant.0, c.loop-test.false)

pub returns : goal.returns
returns c n =
    put_at c.loop.self-inside.places.items c.args.col n c.args.place 0 (omega (arith, c.loop.invariant.0, c.loop-test.false, c.loop.self-inside.places.ok.0))
    ∙ ap (cond (n == c.args.col) c.args.place) (c.loop.invariant.1 n ∙ ap (λ l. get_or l n 0) c.self.view_is)
