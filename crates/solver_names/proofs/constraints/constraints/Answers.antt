use Rattle.std.proofs.Common.{◌∷◌, ◌++◌, [], ◌∙◌, ap, rules}
use Rattle.solver_names.specs.Constraints.{constraint}
use Rattle.solver_names.proofs.RowLists.{one_more}
use Rattle.solver_names.proofs.constraints.constraints.Goals as goal

pub loop-k-preserved : goal.loop-k-preserved
loop-k-preserved c =
    one_more (constraint c.args.book.now c.args.sheet.0) c.loop-k.k c.loop-k.all.items c.push.new.self.items (search rules) c.loop-k.invariant
    (c.in_ok-push.ensures.items ∙ ap (λ x. c.loop-k.all.items ++ x ∷ []) c.in_ok-read_constraint.ensures)
