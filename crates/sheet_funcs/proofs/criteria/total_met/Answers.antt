use Rattle.std.proofs.Common.{◌∙◌, sym, arith}
use Rattle.sheet_funcs.proofs.Meeting.{added, met_error, skipped}
use Rattle.sheet_funcs.proofs.criteria.total_met.Goals as goal

pub loop-place-preserved-then-not-is_met : goal.loop-place-preserved-then-not-is_met
loop-place-preserved-then-not-is_met c =
    skipped c.args.criterion.now c.args.tested.now c.args.others.now c.loop-place.place (omega arith) c.requires _ c.loop-place.total c.index-tested-place.result c.index-tested-place.is
    (sym c.is_met.ensures ∙ c.if-not-is_met.true) c.loop-place.invariant

pub loop-place-preserved : goal.loop-place-preserved
loop-place-preserved c =
    added c.args.criterion.now c.args.tested.now c.args.others.now c.loop-place.place (omega arith) c.requires _ c.loop-place.total c.in_ok-total.total c.index-tested-place.result c.index-others-place.result
    c.index-tested-place.is c.index-others-place.is (sym c.is_met.ensures ∙ c.if-not-is_met.false) c.loop-place.invariant c.in_ok-total.ensures

pub returns-in_err-total : goal.returns-in_err-total
returns-in_err-total c =
    met_error c.args.criterion.now c.args.tested.now c.args.others.now c.loop-place.place (omega arith) c.requires _ c.loop-place.total c.in_err-total.field-0.0 c.from_residual.result
    c.index-tested-place.result c.index-others-place.result c.from_residual.ensures.1 c.index-tested-place.is c.index-others-place.is (sym c.is_met.ensures ∙ c.if-not-is_met.false) c.loop-place.invariant
    c.in_err-total.ensures
