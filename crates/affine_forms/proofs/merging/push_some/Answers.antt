use Rattle.std.proofs.Common.{◌≡◌, ◌++◌, sym, ap, ◌∙◌, [], append-nil, Bool, true, false, true≢false}
use Rattle.affine_forms.proofs.TermSteps.{front_zero, front_some}
use Rattle.affine_forms.proofs.Places.{at_err, one_more}
use Rattle.affine_forms.proofs.merging.push_some.Goals as goal

not_both : (b : Bool) → b ≡ false → b ≡ true → ⊥
not_both b e f = true≢false (sym f ∙ e)

pub returns-in_err-push-clause-in_place : goal.returns-in_err-push-clause-in_place
returns-in_err-push-clause-in_place c =
    let some = front_some c.args.j c.args.c [] (λ z. not_both c.is_zero.result c.if-not-is_zero.true (c.is_zero.ensures.1 z)) in
    at_err c.from_residual.result _ (rw some (one_more c.args.terms.now (c.args.j, c.args.c) c.in_err-push.ensures.in_place))

pub returns-in_ok-push-clause-pushed : goal.returns-in_ok-push-clause-pushed
returns-in_ok-push-clause-pushed c = c.in_ok-push.ensures.ok ∙ ap (λ ts. c.args.terms.now ++ ts) (sym (front_some c.args.j c.args.c [] (λ z. not_both c.is_zero.result c.if-not-is_zero.true (c.is_zero.ensures.1 z))))

pub returns-else-not-is_zero-clause-pushed : goal.returns-else-not-is_zero-clause-pushed
returns-else-not-is_zero-clause-pushed c = sym (ap (λ ts. c.args.terms.now ++ ts) (front_zero c.args.j c.args.c [] (c.is_zero.ensures.0 c.if-not-is_zero.false)) ∙ append-nil _)
