use Rattle.std.proofs.Common.{◌≡◌, arith, to_z, of_z, w32}
use Rattle.std.proofs.lemmas.Int.{ints}
use Rattle.sheet_funcs.proofs.Stepping.{power-step}
use Rattle.sheet_funcs.proofs.steps.raise.Goals as goal

pub returns : goal.returns
returns c =
    let same : to_z w32 (of_z w32 c.args.exponent) ≡ c.args.exponent = omega (arith, ints) in
    rw c.or_wide.ensures (power-step c.args.x c.args.exponent _ c.power.result same c.power.ensures)
