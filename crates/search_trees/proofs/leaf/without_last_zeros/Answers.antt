use Rattle.std.proofs.Common.{sym, ◌∙◌, subst}
use Rattle.std.proofs.lemmas.Bool.{false≢true}
use Rattle.search_trees.specs.Solved.{EndsInZero}
use Rattle.search_trees.proofs.Trimming.{trimmed_whole, trimmed_pop}
use Rattle.search_trees.proofs.leaf.without_last_zeros.Goals as goal

pub loop-left-preserved : goal.loop-left-preserved
loop-left-preserved c =
    let ends : EndsInZero c.loop-left.left.items = subst EndsInZero c.deref.ensures.value (c.ends_in_zero.ensures.0 c.loop-left-test.true) in
    (trimmed_pop c.loop-left.left.items c.pop.new.self.items c.loop-left.left.len c.loop-left.left.ok.0 ends c.pop.ensures.rest).0 ∙ c.loop-left.invariant

pub loop-left-smaller : goal.loop-left-smaller
loop-left-smaller c =
    let ends : EndsInZero c.loop-left.left.items = subst EndsInZero c.deref.ensures.value (c.ends_in_zero.ensures.0 c.loop-left-test.true) in
    (trimmed_pop c.loop-left.left.items c.pop.new.self.items c.loop-left.left.len c.loop-left.left.ok.0 ends c.pop.ensures.rest).1

pub returns : goal.returns
returns c =
    sym (trimmed_whole c.loop-left.left.items (λ e. false≢true (sym c.loop-left-test.false ∙ c.ends_in_zero.ensures.1 (subst EndsInZero (sym c.deref.ensures.value) e)))) ∙ c.loop-left.invariant
