use Rattle.std.proofs.Common.{ℕ, ap, subst, ◌∙◌}
use Rattle.std.proofs.lemmas.List.{take_all}
use Rattle.formula_ast.specs.Measures.{references_of}
use Rattle.formula_ast.specs.Tree.{Tree}
use Rattle.extract_incr.specs.Marking.{AreAreasOf}
use Rattle.extract_incr.proofs.Taken.{one_listed}
use Rattle.extract_incr.proofs.marking.areas_of.Goals as goal

pub loop-side-preserved : goal.loop-side-preserved
loop-side-preserved c =
    one_listed c.args.sides.now c.loop-side.side-index c.side-item.result c.loop-side.found.items c.push.new.self.items _ c.loop-side-test.true c.loop-side.invariant c.in_ok-push.ensures.items
    (ap (λ areas. (c.side-item.result.0, areas)) c.in_ok-areas.ensures ∙ ap (λ (side : ℕ × Tree). (side.0, references_of side.1)) c.side-item.is)

pub returns : goal.returns
returns c = subst (AreAreasOf c.loop-side.found.items) (take_all c.loop-side.side-index c.args.sides.now c.loop-side-test.false) c.loop-side.invariant
