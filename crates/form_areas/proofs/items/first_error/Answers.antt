use Rattle.std.proofs.Common.{arith, sym, ◌∙◌, Some, None}
use Rattle.sheet_model.proofs.Spreading.{rest_from}
use Rattle.form_areas.proofs.AmongItems.{argument_first}
use Rattle.form_areas.proofs.items.first_error.Goals as goal

pub returns-in-Some : goal.returns-in-Some
returns-in-Some c =
    sym
    (argument_first _ _ c.arg-item.result _ (Some c.in-Some.kind) (rest_from c.args.args.now c.loop-arg.arg-index c.arg-item.result (omega arith) c.arg-item.is) c.loop-arg.invariant
    c.in-Some.ensures)

pub loop-arg-preserved : goal.loop-arg-preserved
loop-arg-preserved c =
    argument_first _ _ c.arg-item.result _ None (rest_from c.args.args.now c.loop-arg.arg-index c.arg-item.result (omega arith) c.arg-item.is) c.loop-arg.invariant
    (sym c.in_default.is ∙ c.error_in.ensures)
