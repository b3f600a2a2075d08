use Rattle.std.proofs.Common.{◌∙◌, ap, arith, rules}
use Rattle.std.specs.Prelude.{FitsSigned}
use Rattle.std.specs.Int.{w128}
use Rattle.std.proofs.lemmas.Int.{to_z-of_z, ints}
use Rattle.lin_model.proofs.Raises.{never, over_one, narrow_floor}
use Rattle.lin_model.proofs.tightest.rounded_down.Goals as goal

pub unreachable-requires : goal.unreachable-requires
unreachable-requires c =
    let f : FitsSigned w128 c.floor.result = first_of (search rules, omega (arith, ints), grind arith) in
    never (Rattle.fractions.specs.Floor.floor_ℚ c.args.x) (narrow_floor c.args.x c.num-num.ensures.narrow) (rw (to_z-of_z w128 c.floor.result f, c.floor.ensures) at c.in-None.ensures)

pub returns : goal.returns
returns c =
    let f : FitsSigned w128 c.floor.result = first_of (search rules, omega (arith, ints), grind arith) in
    (rw (to_z-of_z w128 c.floor.result f, over_one c.floor.result) at c.in-Some.ensures.1) ∙ ap Rattle.fractions.specs.Whole.whole_ℚ c.floor.ensures
