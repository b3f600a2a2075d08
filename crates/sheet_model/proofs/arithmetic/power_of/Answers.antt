use Rattle.std.proofs.Common.{◌≡◌, sym, ◌∙◌, arith, pos, to_z, of_z, w32, subst}
use Rattle.std.specs.Prelude.{◌<ℤ◌}
use Rattle.std.proofs.lemmas.Int.{ints}
use Rattle.sheet_model.proofs.NumberTests.{no_zero_below_zero}
use Rattle.sheet_model.proofs.Calculated.{raised-told}
use Rattle.sheet_model.proofs.arithmetic.power_of.Goals as goal

pub power-requires-clause-other_than_zero : goal.power-requires-clause-other_than_zero
power-requires-clause-other_than_zero c h zero =
    let same : to_z w32 (of_z w32 c.in-Some.exponent) ≡ c.in-Some.exponent = omega (arith, ints) in
    no_zero_below_zero c.args.x c.args.y _ c.in-Some.ensures.found.1 (sym c.is_zero_below_zero.ensures ∙ c.if-is_zero_below_zero.false) (subst (λ k. k <ℤ pos 0) same h) zero

pub returns-clause-narrow : goal.returns-clause-narrow
returns-clause-narrow c =
    let same : to_z w32 (of_z w32 c.in-Some.exponent) ≡ c.in-Some.exponent = omega (arith, ints) in
    rw c.number.ensures (raised-told c.args.x c.args.y _ c.power.result c.in-Some.ensures.found.0 (same ∙ c.in-Some.ensures.found.1) (sym c.is_zero_below_zero.ensures ∙ c.if-is_zero_below_zero.false) c.power.ensures)
