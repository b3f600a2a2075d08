use Rattle.std.proofs.Common.{ℕ, List, Vec, Global, refl, sym, subst, arith}
use Rattle.std.specs.Prelude.{All}
use Rattle.std.proofs.lemmas.List.{take_all}
use Rattle.std.proofs.lemmas.List.Elements.{All-more}
use Rattle.linear_models.specs.Agreement.{IsGroupIn}
use Rattle.lin_model.proofs.FitRows.{failed}
use Rattle.lin_model.proofs.Lists.{all_of_lists}
use Rattle.lin_model.proofs.fitting.groups_fit.Goals as goal

pub returns-then-not-group_fits : goal.returns-then-not-group_fits
returns-then-not-group_fits c =
    failed c.group_fits.result c.group_fits.ensures c.if-not-group_fits.true
    (λ h. subst (IsGroupIn c.args.n) (sym c.deref.ensures.value)
    (subst (λ (v : Vec ℕ Global). IsGroupIn c.args.n v.items) (sym c.group-item.is) ((all_of_lists (IsGroupIn c.args.n) c.args.groups.now).0 h c.loop-group.group-index c.group-item.result (omega arith))))

pub loop-group-preserved : goal.loop-group-preserved
loop-group-preserved c =
    All-more (λ (v : Vec ℕ Global). IsGroupIn c.args.n v.items) c.args.groups.now c.loop-group.group-index c.group-item.result (omega arith) c.loop-group.invariant
    (subst (λ (v : Vec ℕ Global). IsGroupIn c.args.n v.items) c.group-item.is (subst (IsGroupIn c.args.n) c.deref.ensures.value (c.group_fits.ensures.0 c.if-not-group_fits.false)))

pub returns : goal.returns
returns c =
    let a = all_of_lists (IsGroupIn c.args.n) c.args.groups.now in
    (λ t. a.1 (subst (λ (vs : List (Vec ℕ Global)). All (λ (v : Vec ℕ Global). IsGroupIn c.args.n v.items) vs) (take_all c.loop-group.group-index c.args.groups.now (omega arith)) c.loop-group.invariant), λ h. refl)
