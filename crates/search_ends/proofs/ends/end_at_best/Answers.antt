use Rattle.std.proofs.Common.{arith, rules, ◌≡◌, sym, subst, ap, ◌∙◌}
use Rattle.std.proofs.lemmas.List.{get_or_default}
use Rattle.fractions.specs.Rational.{ℚ, zero_ℚ}
use Rattle.fractions.specs.Vectors.{at}
use Rattle.fractions.specs.Floor.{floor_ℚ}
use Rattle.searches.specs.Trees.{End, split}
use Rattle.searches.specs.Trails.{best}
use Rattle.search_ends.specs.Ends.{ComesToWith, IsBetter, end_at}
use Rattle.searches.proofs.Ends.{all_whole}
use Rattle.searches.proofs.GroupBounds.{marked_member}
use Rattle.search_ends.proofs.Comes.{comes_beaten, comes_parted, comes_whole, comes_split}
use Rattle.search_ends.proofs.Pairs.{grouped}
use Rattle.search_ends.proofs.ends.end_at_best.Goals as goal

pub returns-then-not-is_better-clause-comes : goal.returns-then-not-is_better-clause-comes
returns-then-not-is_better-clause-comes c =
    let n : ¬ (IsBetter c.args.best c.args.value) = search rules in λ way. comes_beaten c.args.model.now c.args.within.now c.args.best c.args.point.now c.args.value n

pub overflow_cast-decision : goal.overflow_cast-decision
overflow_cast-decision c =
    let e = c.in-Some.ensures.1 in let h = c.requires in let f = c.whole-valid.ensures.valid.few in omega (arith, e, h, f)

pub returns-in-None-first_alike-clause-comes : goal.returns-in-None-first_alike-clause-comes
returns-in-None-first_alike-clause-comes c =
    let y : IsBetter c.args.best c.args.value = search rules in
    λ way. comes_whole c.args.model.now c.args.within.now c.args.best c.args.point.now c.args.value y c.in-None.ensures c.in-None-first_alike.ensures

pub returns-in-Some-clause-comes : goal.returns-in-Some-clause-comes
returns-in-Some-clause-comes c =
    let y : IsBetter c.args.best c.args.value = search rules in
    let e : c.index-point-decision.result ≡ at c.args.point.now c.in-Some.decision =
    c.index-point-decision.is ∙ get_or_default c.args.point.now c.in-Some.decision c.index-point-decision.result zero_ℚ c.in-Some.ensures.1 in
    λ way.
    subst (λ (t : End). ComesToWith c.args.model.now c.args.within.now c.args.best (best c.args.point.now c.args.value) t)
    (sym (c.split_at.ensures.split c.args.point.now way ∙ ap (λ (x : ℚ). split c.in-Some.decision (floor_ℚ x) c.args.value) e))
    (comes_split c.args.model.now c.args.within.now c.args.best c.args.point.now c.args.value c.in-Some.decision y c.in-Some.ensures.0)

pub part-requires-clause-whole : goal.part-requires-clause-whole
part-requires-clause-whole c =
    let m = c.args.model.now in
    let v = c.whole-valid.ensures.valid in
    let a = c.in-Some-first_alike.ensures.0 in
    let w = all_whole m c.args.point.now c.in-None.ensures in
    (w c.in-Some-first_alike.one (marked_member m a.place a.group _ v a.group_is a.alike.one), w c.in-Some-first_alike.other (marked_member m a.place a.group _ v a.group_is a.alike.other))

pub part-requires-clause-bounds : goal.part-requires-clause-bounds
part-requires-clause-bounds c =
    let a = c.in-Some-first_alike.ensures.0 in
    let gs = c.args.model.now.groups in
    (c.requires.bounds _ (grouped c.in-Some-first_alike.one a.place a.group gs a.group_is a.alike.one), c.requires.bounds _ (grouped c.in-Some-first_alike.other a.place a.group gs a.group_is a.alike.other))

pub returns-in-Some-first_alike-clause-comes : goal.returns-in-Some-first_alike-clause-comes
returns-in-Some-first_alike-clause-comes c =
    let y : IsBetter c.args.best c.args.value = search rules in
    λ way. comes_parted c.args.model.now c.args.within.now c.args.best c.args.point.now c.args.value c.in-Some-first_alike.one c.in-Some-first_alike.other (end_at c.part.result c.args.point.now way) y c.in-None.ensures c.in-Some-first_alike.ensures.0
    (c.part.ensures.parting c.args.point.now way)
