use Rattle.std.proofs.Common.{subst}
use Rattle.simplex.specs.Solved.{IsAnswer, IsStop}
use Rattle.simplex.specs.declared.answer.LpAnswer.{LpAnswer}
use Rattle.simplex.specs.declared.answer.LpStop.{LpStop}
use Rattle.search_trees.proofs.Leaves.{never_unbounded, never_wide, never_spent}
use Rattle.search_trees.proofs.leaf.solved.Goals as goal

pub unreachable-requires : goal.unreachable-requires
unreachable-requires c =
    let p = c.args.of.now in
    let r = c.in-Ok-Unbounded.ensures.run in
    never_unbounded p r.0 r.1 c.args.pivots _ _ c.rows-regular.ensures.regular c.requires r.2 (subst (λ (a : LpAnswer). IsAnswer p r.0 a) c.in-Ok-Unbounded.field-0-is r.4)

pub unreachable-requires-in-Err-WidePivot : goal.unreachable-requires-in-Err-WidePivot
unreachable-requires-in-Err-WidePivot c =
    let p = c.args.of.now in
    let r = c.in-Err-WidePivot.ensures.run in
    never_wide p r.0 r.1 c.args.pivots _ _ _ c.rows-regular.ensures.regular c.requires r.2 (subst (λ (e : LpStop). IsStop r.0 c.solve.new.work.left e) c.in-Err-WidePivot.field-0-is r.4).1

pub unreachable-requires-in-Err-Spent : goal.unreachable-requires-in-Err-Spent
unreachable-requires-in-Err-Spent c =
    let p = c.args.of.now in
    let r = c.in-Err-Spent.ensures.run in
    never_spent p r.0 r.1 c.args.pivots c.solve.new.work.left c.rows-regular.ensures.regular c.requires r.2 r.3 (subst (λ (e : LpStop). IsStop r.0 c.solve.new.work.left e) c.in-Err-Spent.field-0-is r.4)
