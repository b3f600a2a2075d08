use Rattle.std.proofs.Common.{◌≡◌, ◌+◌, ℕ, List, Vec, Global, true, refl, sym, ap, ◌∙◌, subst, drop, arith}
use Rattle.std.proofs.lemmas.Bool.{false≢true}
use Rattle.linear_models.specs.Statement.{is_in}
use Rattle.lin_model.specs.Lists.{lists_of}
use Rattle.lin_model.proofs.Equal.{front}
use Rattle.lin_model.proofs.FitRows.{told_not}
use Rattle.opt_certificate.specs.Clashes.{ShareGroup}
use Rattle.opt_certificate.proofs.Shared.{none_shares, past, share_here, share_rest}
use Rattle.opt_certificate.proofs.clash.share_group.Goals as goal

pub returns-then-has_both : goal.returns-then-has_both
returns-then-has_both c =
    let k = c.loop-group.group-index in
    let d = ap lists_of (front c.args.groups.now k c.group-item.result (omega arith) c.group-item.is) in
    let h = subst (λ (g : List ℕ). (is_in c.args.one g ≡ true) × (is_in c.args.other g ≡ true)) c.deref.ensures.value (c.has_both.ensures.0 c.if-has_both.true) in
    let s = share_here c.group-item.result.items (lists_of (drop (k + 1) c.args.groups.now)) c.args.one c.args.other h.0 h.1 in
    (λ t. c.loop-group.invariant.1 (subst (λ (gs : List (List ℕ)). ShareGroup gs c.args.one c.args.other) (sym d) s), λ t. refl)

pub loop-group-preserved : goal.loop-group-preserved
loop-group-preserved c =
    let k = c.loop-group.group-index in
    let d = ap lists_of (front c.args.groups.now k c.group-item.result (omega arith) c.group-item.is) in
    let n : ¬ ((is_in c.args.one c.group-item.result.items ≡ true) × (is_in c.args.other c.group-item.result.items ≡ true)) =
    (λ h. false≢true (sym c.if-has_both.false ∙ c.has_both.ensures.1 (subst (λ (g : List ℕ). (is_in c.args.one g ≡ true) × (is_in c.args.other g ≡ true)) (sym c.deref.ensures.value) h))) in
    let r = share_rest c.group-item.result.items (lists_of (drop (k + 1) c.args.groups.now)) c.args.one c.args.other n in (
      λ s. r.0 (subst (λ (gs : List (List ℕ)). ShareGroup gs c.args.one c.args.other) d (c.loop-group.invariant.0 s)),
      λ s. c.loop-group.invariant.1 (subst (λ (gs : List (List ℕ)). ShareGroup gs c.args.one c.args.other) (sym d) (r.1 s)),
    )

pub returns : goal.returns
returns c =
    told_not (λ s. none_shares c.args.one c.args.other (subst (λ (vs : List (Vec ℕ Global)). ShareGroup (lists_of vs) c.args.one c.args.other) (past c.args.groups.now c.loop-group.group-index (omega arith)) (c.loop-group.invariant.0 s)))
