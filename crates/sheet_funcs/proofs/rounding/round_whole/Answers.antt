use Rattle.std.proofs.Common.{◌≡◌, sym, ◌∙◌, subst, arith, to_z, of_z}
use Rattle.std.specs.Int.{w128}
use Rattle.std.proofs.lemmas.Int.{ints}
use Rattle.frac128.specs.Narrow.{IsNarrowWhole}
use Rattle.sheet_funcs.proofs.Numbers.{narrow_floor}
use Rattle.sheet_funcs.proofs.rounding.round_whole.Goals as goal

pub whole-requires : goal.whole-requires
whole-requires c =
    let same : to_z w128 (of_z w128 c.floor.result) ≡ c.floor.result = omega (arith, ints) in
    subst IsNarrowWhole (sym (same ∙ c.floor.ensures)) (narrow_floor c.args.x c.num-numerator.ensures.narrow)
