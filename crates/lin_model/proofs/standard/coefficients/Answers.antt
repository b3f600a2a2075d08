use Rattle.std.proofs.Common.{◌≡◌, ap, ◌∙◌, subst, arith, replicate, List, ℕ}
use Rattle.std.proofs.lemmas.List.{drop_all}
use Rattle.fractions.specs.Rational.{ℚ, zero_ℚ}
use Rattle.fractions.specs.Vectors.{at}
use Rattle.lin_model.proofs.Dense.{filled, coefficients_are}
use Rattle.lin_model.proofs.Signs.{reach_at}
use Rattle.lin_model.proofs.standard.coefficients.Goals as goal

pub index_mut-requires : goal.index_mut-requires
index_mut-requires c =
    let h = reach_at c.args.terms.now c.args.count c.loop-decision.decision-index c.loop-decision-item.result c.requires.below (omega arith) c.loop-decision-item.is in
    omega (arith, h, c.loop-decision.invariant.size)

pub returns : goal.returns
returns c =
    let e : c.loop-decision.all.items ≡ filled c.args.terms.now (replicate c.args.count zero_ℚ) =
    subst (λ (ts : List (ℕ × ℚ)). filled ts c.loop-decision.all.items ≡ filled c.args.terms.now (replicate c.args.count zero_ℚ)) (drop_all c.loop-decision.decision-index c.args.terms.now (omega arith)) c.loop-decision.invariant.put in
    (c.loop-decision.invariant.size, λ i h. ap (λ v. at v i) e ∙ coefficients_are c.args.count c.args.terms.now i c.requires.rising c.requires.below)
