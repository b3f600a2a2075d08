use Rattle.std.proofs.Common.{◌<◌, length, arith}
use Rattle.affine_forms.specs.Steps.{scaled_terms}
use Rattle.affine_forms.proofs.TermSteps.{rest_from, scaled_goes}
use Rattle.affine_forms.proofs.Places.{needs_room, may_stop, at_stop, few_some_pushed, one_wants}
use Rattle.affine_forms.proofs.merging.multiple_of_terms.Goals as goal

pub returns-in_err-push_some-clause-in_place : goal.returns-in_err-push_some-clause-in_place
returns-in_err-push_some-clause-in_place c =
    may_stop (scaled_terms c.args.k c.args.terms.now) c.from_residual-in_err-push_some.result
    (needs_room (scaled_terms c.args.k c.args.terms.now) _ _
    (scaled_goes _ _ _ _ c.loop-j-item.result c.args.k (rest_from c.args.terms.now c.loop-j.j-index c.loop-j-item.result (omega arith) c.loop-j-item.is) c.loop-j.invariant.narrow c.in_ok-product.product c.in_ok-product.ensures.0 c.in_ok-product.ensures.1)
    c.in_err-push_some.ensures.in_place)

pub loop-j-preserved : goal.loop-j-preserved
loop-j-preserved c = record {
  few = few_some_pushed _ _ _ _ c.loop-j.j-index _ c.in_ok-push_some.ensures.pushed c.loop-j.invariant.few (omega arith);
  narrow =
      rw c.in_ok-push_some.ensures.pushed
      (scaled_goes _ _ _ _ c.loop-j-item.result c.args.k (rest_from c.args.terms.now c.loop-j.j-index c.loop-j-item.result (omega arith) c.loop-j-item.is) c.loop-j.invariant.narrow c.in_ok-product.product c.in_ok-product.ensures.0
      c.in_ok-product.ensures.1);
}

pub returns-in_err-push_some-clause-few : goal.returns-in_err-push_some-clause-few
returns-in_err-push_some-clause-few c =
    at_stop c.from_residual-in_err-push_some.result (2 < length c.args.terms.now)
    (one_wants c.loop-j.products _ _ c.loop-j.j-index _ c.in_err-push_some.ensures.in_place c.loop-j.invariant.few c.loop-j-test.true)
