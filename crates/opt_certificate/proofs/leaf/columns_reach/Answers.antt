use Rattle.std.proofs.Common.{arith, ap, length, below_more}
use Rattle.std.proofs.lemmas.Result.{err_from_is_err_and}
use Rattle.opt_certificate.proofs.leaf.columns_reach.Goals as goal

pub returns-in_err-column_reaches : goal.returns-in_err-column_reaches
returns-in_err-column_reaches c =
    let p = err_from_is_err_and c.from_residual.result c.from_residual.ensures.1 in
    rw p.1 (λ n. c.in_err-column_reaches.ensures (n c.loop-column.column (omega (arith, ap length c.objective-column-end.ensures.value))))

pub loop-column-preserved : goal.loop-column-preserved
loop-column-preserved c =
    let j = rw c.if-not-branch.false at c.in_ok-column_reaches.ensures in
    record { reach = below_more _ _ c.loop-column.invariant.reach j.0; narrow = below_more _ _ c.loop-column.invariant.narrow j.1 }

pub returns : goal.returns
returns c = (
  λ j h. c.loop-column.invariant.reach j (omega (arith, ap length c.objective-column-end.ensures.value)),
  λ j h. c.loop-column.invariant.narrow j (omega (arith, ap length c.objective-column-end.ensures.value)),
)
