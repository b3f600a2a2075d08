use Rattle.std.proofs.Common.{◌≡◌, ℕ, ℤ, ◌<◌, ◌^◌, to_z, of_z, ◌∙◌, subst, sym}
use Rattle.std.specs.Int.{w128, int_pow}
use Rattle.std.proofs.lemmas.Bool.{false≢true}
use Rattle.frac128.specs.Narrow.{IsNarrowWhole}
use Rattle.frac128.specs.Pairs.{Pair, IsNarrowPair, IsReduced, power}
use Rattle.frac128.proofs.Readings.{back}
use Rattle.frac128.proofs.Powers.{reduced-power}
use Rattle.frac128.proofs.parts.Parts.power.Goals as goal

made : (x : Pair) (e d : ℕ) (n : ℤ) → IsNarrowPair x → (n ≡ int_pow (to_z w128 (of_z w128 x.num)) e) × IsNarrowWhole n → (d ≡ x.den ^ e) × (d < 2 ^ 127) → IsNarrowPair (record { num = to_z w128 (of_z w128 n); den = d }) × (record { num = to_z w128 (of_z w128 n); den = d } ≡ power x e)
made x e d n p en ed =
    let num = back n en.1 ∙ (rw (back x.num p.num) at en.0) in
    let same : power x e ≡ record { num = to_z w128 (of_z w128 n); den = d } = λ i. record { num = sym num i; den = sym ed.0 i } in
    (record { num = rw (back n en.1) en.1; den = ed.1; reduced = subst IsReduced same (reduced-power x e p.reduced) }, sym same)

pub invariant_of-result : goal.invariant_of-result
invariant_of-result c = (made _ _ _ _ c.self.invariant c.in_ok-num.ensures c.in_ok-den.ensures).0

pub returns-clause-value : goal.returns-clause-value
returns-clause-value c = rw (← c.self.view_is) (made _ _ _ _ c.self.invariant c.in_ok-num.ensures c.in_ok-den.ensures)

pub returns-clause-wide : goal.returns-clause-wide
returns-clause-wide c =
    let r = made _ _ _ _ c.self.invariant c.in_ok-num.ensures c.in_ok-den.ensures in
    rw (← c.self.view_is) (λ e. absurd (false≢true e), λ n. absurd (n (subst IsNarrowPair r.1 r.0)))
