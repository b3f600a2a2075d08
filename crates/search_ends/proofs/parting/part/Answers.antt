use Rattle.std.proofs.Common.{◌∙◌, sym, subst}
use Rattle.std.proofs.lemmas.Bool.{false≢true}
use Rattle.searches.specs.Alike.{at_first, at_second}
use Rattle.searches.specs.Trees.{End}
use Rattle.search_ends.specs.Pairs.{IsParting, by_split, by_clash}
use Rattle.search_ends.proofs.parting.part.Goals as goal

pub returns-then-bounds_differ-clause-parting : goal.returns-then-bounds_differ-clause-parting
returns-then-bounds_differ-clause-parting c = λ there way.
    let s = c.split_beside.ensures.split in
    subst (λ (e : End). IsParting c.args.within.now c.args.point.now c.args.value c.args.one c.args.other e) (sym (s.2 there way))
    (by_split c.args.one s.0 (at_first (c.bounds_differ.ensures.0 c.if-bounds_differ.true)) s.1)

pub returns-then-bounds_differ-2-clause-parting : goal.returns-then-bounds_differ-2-clause-parting
returns-then-bounds_differ-2-clause-parting c = λ there way.
    let s = c.split_beside-then-bounds_differ-2.ensures.split in
    subst (λ (e : End). IsParting c.args.within.now c.args.point.now c.args.value c.args.one c.args.other e) (sym (s.2 there way))
    (by_split c.args.other s.0 (at_second (λ d. false≢true (sym c.if-bounds_differ.false ∙ c.bounds_differ.ensures.1 d)) (c.bounds_differ-2.ensures.0 c.if-bounds_differ-2.true)) s.1)

pub returns-clause-parting : goal.returns-clause-parting
returns-clause-parting c = λ there way.
    by_clash (λ d. false≢true (sym c.if-bounds_differ.false ∙ c.bounds_differ.ensures.1 d)) (λ d. false≢true (sym c.if-bounds_differ-2.false ∙ c.bounds_differ-2.ensures.1 d))
