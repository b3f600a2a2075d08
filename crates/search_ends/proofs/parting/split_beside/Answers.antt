use Rattle.std.proofs.Common.{◌≡◌, ◌∙◌, ℤ, pos, negsuc, ◌+ℤ◌, List, Option, Some, ap, sym, subst}
use Rattle.std.proofs.lemmas.Bool.{false≢true}
use Rattle.std.proofs.lemmas.List.{get_or_default}
use Rattle.fractions.specs.Rational.{ℚ, zero_ℚ}
use Rattle.fractions.specs.Whole.{whole_ℚ}
use Rattle.frac128.specs.Narrow.{IsNarrowWhole}
use Rattle.linear_models.specs.Box.{bound_at}
use Rattle.opt_certificate.proofs.Wholes.{read_back}
use Rattle.searches.specs.Trees.{split}
use Rattle.search_ends.proofs.Beside.{beside_at, beside_before, fits_less, folded_less}
use Rattle.search_ends.proofs.parting.split_beside.Goals as goal

pub bound_there-least-requires-clause-there : goal.bound_there-least-requires-clause-there
bound_there-least-requires-clause-there c =
    let t = c.requires.bounds in (whole_ℚ t.low, subst (λ (bs : List (Option ℚ)). bound_at bs c.args.decision ≡ Some (whole_ℚ t.low)) (sym c.least.ensures) t.least)

pub bound_there-greatest-requires-clause-there : goal.bound_there-greatest-requires-clause-there
bound_there-greatest-requires-clause-there c =
    let t = c.requires.bounds in (whole_ℚ t.high, subst (λ (bs : List (Option ℚ)). bound_at bs c.args.decision ≡ Some (whole_ℚ t.high)) (sym c.greatest.ensures) t.greatest)

pub overflow_sub-result : goal.overflow_sub-result
overflow_sub-result c =
    let s = beside_before c.args.within.now c.args.decision c.args.point.now c.index-point-decision.result c.bound_there-least.result c.floor-floor.result
    (c.index-point-decision.is ∙ get_or_default c.args.point.now c.args.decision c.index-point-decision.result zero_ℚ c.requires.point) c.floor-floor.ensures c.requires.whole c.num-num.ensures.narrow c.requires.bounds
    (subst (λ (bs : List (Option ℚ)). bound_at bs c.args.decision ≡ Some c.bound_there-least.result) c.least.ensures c.bound_there-least.ensures.is) c.bound_there-least.ensures.narrow (c.is_below.ensures.0 c.if-is_below.true) in
    fits_less c.floor-floor.result s.0 s.1.narrow

pub returns-then-is_below-clause-split : goal.returns-then-is_below-clause-split
returns-then-is_below-clause-split c =
    let s = beside_before c.args.within.now c.args.decision c.args.point.now c.index-point-decision.result c.bound_there-least.result c.floor-floor.result
    (c.index-point-decision.is ∙ get_or_default c.args.point.now c.args.decision c.index-point-decision.result zero_ℚ c.requires.point) c.floor-floor.ensures c.requires.whole c.num-num.ensures.narrow c.requires.bounds
    (subst (λ (bs : List (Option ℚ)). bound_at bs c.args.decision ≡ Some c.bound_there-least.result) c.least.ensures c.bound_there-least.ensures.is) c.bound_there-least.ensures.narrow (c.is_below.ensures.0 c.if-is_below.true) in
    (c.floor-floor.result +ℤ negsuc 0, s.1.floor, λ there way. ap (λ (z : ℤ). split c.args.decision z c.args.value) (folded_less c.floor-floor.result s.0 s.1.narrow))

pub returns-then-is_below-clause-narrow : goal.returns-then-is_below-clause-narrow
returns-then-is_below-clause-narrow c =
    let s = beside_before c.args.within.now c.args.decision c.args.point.now c.index-point-decision.result c.bound_there-least.result c.floor-floor.result
    (c.index-point-decision.is ∙ get_or_default c.args.point.now c.args.decision c.index-point-decision.result zero_ℚ c.requires.point) c.floor-floor.ensures c.requires.whole c.num-num.ensures.narrow c.requires.bounds
    (subst (λ (bs : List (Option ℚ)). bound_at bs c.args.decision ≡ Some c.bound_there-least.result) c.least.ensures c.bound_there-least.ensures.is) c.bound_there-least.ensures.narrow (c.is_below.ensures.0 c.if-is_below.true) in
    subst (λ (z : ℤ). IsNarrowWhole z × IsNarrowWhole (z +ℤ pos 1)) (sym (folded_less c.floor-floor.result s.0 s.1.narrow)) (s.1.narrow, s.1.above)

pub returns-clause-split : goal.returns-clause-split
returns-clause-split c =
    let s = beside_at c.args.within.now c.args.decision c.args.point.now c.index-point-decision.result c.bound_there-least.result c.bound_there-greatest.result c.floor-floor.result
    (c.index-point-decision.is ∙ get_or_default c.args.point.now c.args.decision c.index-point-decision.result zero_ℚ c.requires.point) c.floor-floor.ensures c.requires.in_box c.requires.whole c.num-num.ensures.narrow c.requires.bounds c.requires.differ
    (subst (λ (bs : List (Option ℚ)). bound_at bs c.args.decision ≡ Some c.bound_there-least.result) c.least.ensures c.bound_there-least.ensures.is)
    (subst (λ (bs : List (Option ℚ)). bound_at bs c.args.decision ≡ Some c.bound_there-greatest.result) c.greatest.ensures c.bound_there-greatest.ensures.is)
    c.bound_there-greatest.ensures.narrow (λ l. false≢true (sym c.if-is_below.false ∙ c.is_below.ensures.1 l)) in
    (c.floor-floor.result, s.floor, λ there way. ap (λ (z : ℤ). split c.args.decision z c.args.value) (read_back c.floor-floor.result s.narrow))

pub returns-clause-narrow : goal.returns-clause-narrow
returns-clause-narrow c =
    let s = beside_at c.args.within.now c.args.decision c.args.point.now c.index-point-decision.result c.bound_there-least.result c.bound_there-greatest.result c.floor-floor.result
    (c.index-point-decision.is ∙ get_or_default c.args.point.now c.args.decision c.index-point-decision.result zero_ℚ c.requires.point) c.floor-floor.ensures c.requires.in_box c.requires.whole c.num-num.ensures.narrow c.requires.bounds c.requires.differ
    (subst (λ (bs : List (Option ℚ)). bound_at bs c.args.decision ≡ Some c.bound_there-least.result) c.least.ensures c.bound_there-least.ensures.is)
    (subst (λ (bs : List (Option ℚ)). bound_at bs c.args.decision ≡ Some c.bound_there-greatest.result) c.greatest.ensures c.bound_there-greatest.ensures.is)
    c.bound_there-greatest.ensures.narrow (λ l. false≢true (sym c.if-is_below.false ∙ c.is_below.ensures.1 l)) in
    subst (λ (z : ℤ). IsNarrowWhole z × IsNarrowWhole (z +ℤ pos 1)) (sym (read_back c.floor-floor.result s.narrow)) (s.narrow, s.above)
