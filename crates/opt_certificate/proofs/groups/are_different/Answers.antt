use Rattle.std.proofs.Common.{ℕ, List, Vec, Global, refl, sym, subst, arith}
use Rattle.std.specs.Prelude.{All}
use Rattle.std.proofs.lemmas.List.{take_all}
use Rattle.std.proofs.lemmas.List.Elements.{All-more}
use Rattle.optimality.specs.Groups.{AreDifferent}
use Rattle.lin_model.proofs.FitRows.{failed}
use Rattle.lin_model.proofs.Lists.{all_of_lists}
use Rattle.opt_certificate.proofs.groups.are_different.Goals as goal

pub returns-then-not-is_different : goal.returns-then-not-is_different
returns-then-not-is_different c =
    failed c.is_different.result c.is_different.ensures c.if-not-is_different.true
    (λ h. subst (AreDifferent c.args.point.now) (sym c.deref.ensures.value)
    (subst (λ (v : Vec ℕ Global). AreDifferent c.args.point.now v.items) (sym c.group-item.is) ((all_of_lists (AreDifferent c.args.point.now) c.args.groups.now).0 h c.loop-group.group-index c.group-item.result (omega arith))))

pub loop-group-preserved : goal.loop-group-preserved
loop-group-preserved c =
    All-more (λ (v : Vec ℕ Global). AreDifferent c.args.point.now v.items) c.args.groups.now c.loop-group.group-index c.group-item.result (omega arith) c.loop-group.invariant
    (subst (λ (v : Vec ℕ Global). AreDifferent c.args.point.now v.items) c.group-item.is (subst (AreDifferent c.args.point.now) c.deref.ensures.value (c.is_different.ensures.0 c.if-not-is_different.false)))

pub returns : goal.returns
returns c =
    let a = all_of_lists (AreDifferent c.args.point.now) c.args.groups.now in
    (λ t. a.1 (subst (λ (vs : List (Vec ℕ Global)). All (λ (v : Vec ℕ Global). AreDifferent c.args.point.now v.items) vs) (take_all c.loop-group.group-index c.args.groups.now (omega arith)) c.loop-group.invariant), λ h. refl)
