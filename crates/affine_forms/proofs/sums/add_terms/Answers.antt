use Rattle.std.proofs.Common.{◌<◌, ◌+◌, length, ◌∙◌, ◌++◌, ap, sym, Some, length-append}
use Rattle.affine_forms.specs.Steps.{merged}
use Rattle.affine_forms.proofs.SideBySide.{behind_merged}
use Rattle.affine_forms.proofs.Places.{needs_room_at_end, may_stop, at_stop}
use Rattle.affine_forms.proofs.sums.add_terms.Goals as goal

pub returns-in_err-append-clause-in_place : goal.returns-in_err-append-clause-in_place
returns-in_err-append-clause-in_place c =
    may_stop (merged c.args.terms.now c.args.more.now) c.from_residual.result
    (needs_room_at_end (merged c.args.terms.now c.args.more.now) (c.args.terms.now ++ c.args.more.now)
    (behind_merged c.args.terms.now c.args.more.now (rw c.as_slice.ensures at (c.lie_behind.ensures c.if-lie_behind.true)))
    (rw (length-append c.args.terms.now c.args.more.now) c.in_err-append.ensures.in_place))

pub returns-then-lie_behind-clause-answer : goal.returns-then-lie_behind-clause-answer
returns-then-lie_behind-clause-answer c =
    behind_merged c.args.terms.now c.args.more.now (rw c.as_slice.ensures at (c.lie_behind.ensures c.if-lie_behind.true)) ∙ ap Some (sym c.in_ok-append.ensures.ok)

pub returns-in_err-append-clause-few : goal.returns-in_err-append-clause-few
returns-in_err-append-clause-few c = at_stop c.from_residual.result (2 < length c.args.terms.now + length c.args.more.now) c.in_err-append.ensures.in_place
