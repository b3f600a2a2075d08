use Rattle.std.proofs.Common.{◌+◌, ◌-◌, ℕ, List, refl, sym, ◌∙◌, subst, drop, take, get_or, length, arith}
use Rattle.std.proofs.lemmas.Bool.{false≢true}
use Rattle.fractions.specs.Rational.{ℚ}
use Rattle.fractions.specs.Vectors.{at}
use Rattle.lin_model.proofs.Apart.{HasValue, IsApart, behind, one_apart, one_not_apart}
use Rattle.lin_model.proofs.FitRows.{told_not}
use Rattle.opt_certificate.proofs.Shared.{past}
use Rattle.opt_certificate.proofs.groups.is_different.Goals as goal

pub returns-then-holds : goal.returns-then-holds
returns-then-holds c =
    let a = c.args.point.now in
    let js = c.args.group.now in
    let k = c.loop-place.place in
    let v : HasValue (at a) (drop (k + 1) js) (at a (get_or js k 0)) =
    subst (λ (xs : List ℕ). HasValue (at a) xs (at a (get_or js k 0))) (behind js k)
    (subst (λ (x : ℚ). HasValue (at a) (take (length js - (k + 1)) (drop (k + 1) js)) x) c.number_of-number.ensures (c.holds.ensures.0 c.if-holds.true)) in
    told_not (λ h. one_not_apart (at a) js k c.loop-place-test.true v c.loop-place.invariant h.apart)

pub loop-place-preserved : goal.loop-place-preserved
loop-place-preserved c =
    let a = c.args.point.now in
    let js = c.args.group.now in
    let k = c.loop-place.place in
    one_apart (at a) js k c.loop-place-test.true
    (λ v. false≢true (sym c.if-holds.false ∙ c.holds.ensures.1
    (subst (λ (x : ℚ). HasValue (at a) (take (length js - (k + 1)) (drop (k + 1) js)) x) (sym c.number_of-number.ensures) (subst (λ (xs : List ℕ). HasValue (at a) xs (at a (get_or js k 0))) (sym (behind js k)) v))))
    c.loop-place.invariant

pub returns : goal.returns
returns c =
    let a = c.args.point.now in
    (λ t. record { apart = c.loop-place.invariant.1 (subst (IsApart (at a)) (sym (past c.args.group.now c.loop-place.place (omega arith))) (λ i k l m e. absurd (omega (arith, l)))) }, λ h. refl)
