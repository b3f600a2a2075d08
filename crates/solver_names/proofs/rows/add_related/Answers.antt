use Rattle.std.proofs.Common.{◌∷◌, ◌++◌, [], ◌∙◌, ap₂}
use Rattle.solver_names.proofs.RowLists.{one_row}
use Rattle.solver_names.proofs.rows.add_related.Goals as goal

pub loop-place-preserved : goal.loop-place-preserved
loop-place-preserved c =
    one_row c.args.constraint.now c.args.relation c.args.left c.args.rows.now.items c.loop-place.rows.items c.push.new.self.items c.loop-place.place c.loop-place.invariant
    (c.in_ok-push.ensures.items ∙ ap₂ (λ cell place. c.loop-place.rows.items ++ (c.args.relation, cell, place) ∷ []) c.at.ensures c.right_place.ensures)
