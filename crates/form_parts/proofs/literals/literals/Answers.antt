use Rattle.form_parts.proofs.Arrays.{literals_go}
use Rattle.form_parts.proofs.literals.literals.Goals as goal

pub loop-item-preserved : goal.loop-item-preserved
loop-item-preserved c =
    literals_go c.args.items.now c.loop-item.item-index c.item-item.result c.loop-item.values.items _ _ c.loop-item-test.true c.item-item.is c.loop-item.invariant c.in_ok-literal.ensures c.in_ok-push.ensures.items
