use Rattle.std.proofs.Common.{◌≤◌, ◌<◌, ◌+◌, ◌⊎◌, inl, inr, arith, length, drop}
use Rattle.affine_forms.specs.Steps.{merged}
use Rattle.affine_forms.proofs.TermSteps.{rest_from, first_goes, second_goes, both_goes, ended, rest_taken}
use Rattle.affine_forms.proofs.Places.{needs_room, needs_room_at_end, may_stop, at_stop, one_more, front_long, both_long, few_pushed, both_pushed, both_want, left_wants, right_wants}
use Rattle.affine_forms.proofs.merging.sum_of_terms.Goals as goal
use Rattle.affine_forms.proofs.merging.sum_of_terms.Goals.{then-loop-i-test+else-j-right, else-loop-i-test}

pub returns-in_err-push-clause-in_place : goal.returns-in_err-push-clause-in_place
returns-in_err-push-clause-in_place c =
    may_stop (merged c.args.left.now c.args.right.now) c.from_residual.result
    (needs_room (merged c.args.left.now c.args.right.now) _ _
    (first_goes _ _ _ _ _ _ c.index-left-i.result c.index-right-j.result (rest_from c.args.left.now c.loop-i.i c.index-left-i.result (omega arith) c.index-left-i.is)
    (rest_from c.args.right.now c.loop-i.j c.index-right-j.result (omega arith) c.index-right-j.is) c.loop-i.invariant.narrow c.if-t-u.true)
    (one_more c.loop-i.terms c.index-left-i.result c.in_err-push.ensures.in_place))

pub loop-i-preserved-then-t-u : goal.loop-i-preserved-then-t-u
loop-i-preserved-then-t-u c = record {
  first = omega arith;
  second = omega arith;
  few = few_pushed _ _ _ (c.loop-i.i + c.loop-i.j) _ c.in_ok-push.ensures.ok c.loop-i.invariant.few (omega arith);
  narrow =
      rw c.in_ok-push.ensures.ok
      (first_goes _ _ _ _ _ _ c.index-left-i.result c.index-right-j.result (rest_from c.args.left.now c.loop-i.i c.index-left-i.result (omega arith) c.index-left-i.is)
      (rest_from c.args.right.now c.loop-i.j c.index-right-j.result (omega arith) c.index-right-j.is) c.loop-i.invariant.narrow c.if-t-u.true);
}

pub returns-in_err-push-2-clause-in_place : goal.returns-in_err-push-2-clause-in_place
returns-in_err-push-2-clause-in_place c =
    may_stop (merged c.args.left.now c.args.right.now) c.from_residual-in_err-push-2.result
    (needs_room (merged c.args.left.now c.args.right.now) _ _
    (second_goes _ _ _ _ _ _ c.index-left-i.result c.index-right-j.result (rest_from c.args.left.now c.loop-i.i c.index-left-i.result (omega arith) c.index-left-i.is)
    (rest_from c.args.right.now c.loop-i.j c.index-right-j.result (omega arith) c.index-right-j.is) c.loop-i.invariant.narrow c.if-u-t.true)
    (one_more c.loop-i.terms c.index-right-j.result c.in_err-push-2.ensures.in_place))

pub loop-i-preserved-then-u-t : goal.loop-i-preserved-then-u-t
loop-i-preserved-then-u-t c = record {
  first = omega arith;
  second = omega arith;
  few = few_pushed _ _ _ (c.loop-i.i + c.loop-i.j) _ c.in_ok-push-2.ensures.ok c.loop-i.invariant.few (omega arith);
  narrow =
      rw c.in_ok-push-2.ensures.ok
      (second_goes _ _ _ _ _ _ c.index-left-i.result c.index-right-j.result (rest_from c.args.left.now c.loop-i.i c.index-left-i.result (omega arith) c.index-left-i.is)
      (rest_from c.args.right.now c.loop-i.j c.index-right-j.result (omega arith) c.index-right-j.is) c.loop-i.invariant.narrow c.if-u-t.true);
}

pub returns-in_err-push_some-clause-in_place : goal.returns-in_err-push_some-clause-in_place
returns-in_err-push_some-clause-in_place c =
    may_stop (merged c.args.left.now c.args.right.now) c.from_residual-in_err-push_some.result
    (needs_room (merged c.args.left.now c.args.right.now) _ _
    (both_goes _ _ _ _ _ _ c.index-left-i.result c.index-right-j.result (rest_from c.args.left.now c.loop-i.i c.index-left-i.result (omega arith) c.index-left-i.is)
    (rest_from c.args.right.now c.loop-i.j c.index-right-j.result (omega arith) c.index-right-j.is) c.loop-i.invariant.narrow c.in_ok-sum.sum (omega arith) c.in_ok-sum.ensures.0 c.in_ok-sum.ensures.1)
    c.in_err-push_some.ensures.in_place)

pub loop-i-preserved : goal.loop-i-preserved
loop-i-preserved c = record {
  first = omega arith;
  second = omega arith;
  few = both_pushed _ _ _ _ c.loop-i.i c.loop-i.j c.in_ok-push_some.ensures.pushed c.loop-i.invariant.few;
  narrow =
      rw c.in_ok-push_some.ensures.pushed
      (both_goes _ _ _ _ _ _ c.index-left-i.result c.index-right-j.result (rest_from c.args.left.now c.loop-i.i c.index-left-i.result (omega arith) c.index-left-i.is)
      (rest_from c.args.right.now c.loop-i.j c.index-right-j.result (omega arith) c.index-right-j.is) c.loop-i.invariant.narrow c.in_ok-sum.sum (omega arith) c.in_ok-sum.ensures.0 c.in_ok-sum.ensures.1);
}

pub returns-in_err-append-clause-in_place : goal.returns-in_err-append-clause-in_place
returns-in_err-append-clause-in_place c =
    let l = rest_taken c.args.left.now c.loop-i.i in
    let over : (length c.args.left.now ≤ c.loop-i.i) ⊎ (length c.args.right.now ≤ c.loop-i.j) =
    elim c.loop-i-test.branch [ then-loop-i-test+else-j-right w ↦ inr (omega arith) | else-loop-i-test w ↦ inl (omega arith) ] in
    may_stop (merged c.args.left.now c.args.right.now) c.from_residual-in_err-append.result
    (needs_room_at_end (merged c.args.left.now c.args.right.now) _ (ended _ c.loop-i.terms c.args.left.now c.args.right.now c.loop-i.i c.loop-i.j over c.loop-i.invariant.narrow)
    (front_long c.loop-i.terms (drop c.loop-i.i c.args.left.now) (drop c.loop-i.j c.args.right.now) (rw l at c.in_err-append.ensures.in_place)))

pub returns-in_err-append-2-clause-in_place : goal.returns-in_err-append-2-clause-in_place
returns-in_err-append-2-clause-in_place c =
    let l = rest_taken c.args.left.now c.loop-i.i in
    let r = rest_taken c.args.right.now c.loop-i.j in
    let over : (length c.args.left.now ≤ c.loop-i.i) ⊎ (length c.args.right.now ≤ c.loop-i.j) =
    elim c.loop-i-test.branch [ then-loop-i-test+else-j-right w ↦ inr (omega arith) | else-loop-i-test w ↦ inl (omega arith) ] in
    may_stop (merged c.args.left.now c.args.right.now) c.from_residual-in_err-append-2.result
    (needs_room_at_end (merged c.args.left.now c.args.right.now) _ (ended _ c.loop-i.terms c.args.left.now c.args.right.now c.loop-i.i c.loop-i.j over c.loop-i.invariant.narrow)
    (both_long c.loop-i.terms (drop c.loop-i.i c.args.left.now) (drop c.loop-i.j c.args.right.now) (rw (c.in_ok-append.ensures.ok, l, r) at c.in_err-append-2.ensures.in_place)))

pub returns-clause-narrow : goal.returns-clause-narrow
returns-clause-narrow c =
    let over : (length c.args.left.now ≤ c.loop-i.i) ⊎ (length c.args.right.now ≤ c.loop-i.j) =
    elim c.loop-i-test.branch [ then-loop-i-test+else-j-right w ↦ inr (omega arith) | else-loop-i-test w ↦ inl (omega arith) ] in
    rw (c.in_ok-append-2.ensures.ok, c.in_ok-append.ensures.ok, rest_taken c.args.left.now c.loop-i.i, rest_taken c.args.right.now c.loop-i.j)
    (ended _ c.loop-i.terms c.args.left.now c.args.right.now c.loop-i.i c.loop-i.j over c.loop-i.invariant.narrow)

-- ---- want of memory
pub returns-in_err-push-clause-few : goal.returns-in_err-push-clause-few
returns-in_err-push-clause-few c =
    at_stop c.from_residual.result (2 < length c.args.left.now + length c.args.right.now)
    (let a : 2 ≤ length c.loop-i.terms = c.in_err-push.ensures.in_place in let b : length c.loop-i.terms ≤ c.loop-i.i + c.loop-i.j = c.loop-i.invariant.few in omega arith)

pub returns-in_err-push-2-clause-few : goal.returns-in_err-push-2-clause-few
returns-in_err-push-2-clause-few c =
    at_stop c.from_residual-in_err-push-2.result (2 < length c.args.left.now + length c.args.right.now)
    (let a : 2 ≤ length c.loop-i.terms = c.in_err-push-2.ensures.in_place in let b : length c.loop-i.terms ≤ c.loop-i.i + c.loop-i.j = c.loop-i.invariant.few in omega arith)

pub returns-in_err-push_some-clause-few : goal.returns-in_err-push_some-clause-few
returns-in_err-push_some-clause-few c =
    at_stop c.from_residual-in_err-push_some.result (2 < length c.args.left.now + length c.args.right.now)
    (both_want c.loop-i.terms _ _ c.loop-i.i c.loop-i.j _ _ c.in_err-push_some.ensures.in_place c.loop-i.invariant.few c.loop-i-test.true c.if-j-right.true)

pub returns-in_err-append-clause-few : goal.returns-in_err-append-clause-few
returns-in_err-append-clause-few c =
    let l = rest_taken c.args.left.now c.loop-i.i in
    at_stop c.from_residual-in_err-append.result (2 < length c.args.left.now + length c.args.right.now)
    (left_wants c.loop-i.terms c.args.left.now c.args.right.now c.loop-i.i c.loop-i.j (rw l at c.in_err-append.ensures.in_place) c.loop-i.invariant.few c.loop-i.invariant.first c.loop-i.invariant.second)

pub returns-in_err-append-2-clause-few : goal.returns-in_err-append-2-clause-few
returns-in_err-append-2-clause-few c =
    let l = rest_taken c.args.left.now c.loop-i.i in
    let r = rest_taken c.args.right.now c.loop-i.j in
    at_stop c.from_residual-in_err-append-2.result (2 < length c.args.left.now + length c.args.right.now)
    (right_wants c.loop-i.terms c.args.left.now c.args.right.now c.loop-i.i c.loop-i.j (rw (c.in_ok-append.ensures.ok, l, r) at c.in_err-append-2.ensures.in_place) c.loop-i.invariant.few c.loop-i.invariant.first
    c.loop-i.invariant.second)
