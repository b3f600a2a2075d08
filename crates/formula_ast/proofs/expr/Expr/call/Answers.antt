-- A list of arguments has as many trees as items.
use Rattle.std.proofs.Common.{refl, subst, ◌∙◌}
use Rattle.formula_ast.specs.Functions.{Takes}
use Rattle.formula_ast.proofs.Parts.{count-trees}
use Rattle.formula_ast.proofs.expr.Expr.call.Goals as goal

pub invariant_of-result : goal.invariant_of-result
invariant_of-result c =
    (c.requires.forward, rw count-trees (subst (Takes c.args.func) (c.len.ensures ∙ c.args.args.ok.0) (c.if-not-takes.ensures.0 refl)), c.requires.within)
