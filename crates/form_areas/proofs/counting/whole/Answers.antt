use Rattle.std.proofs.Common.{◌≡◌, ap, ◌∙◌, arith, to_z, of_z}
use Rattle.std.specs.Int.{w128}
use Rattle.std.proofs.lemmas.Int.{ints}
use Rattle.fractions.specs.Whole.{whole_ℚ}
use Rattle.sheet_funcs.proofs.Numbers.{not_over_one, over-one}
use Rattle.form_areas.proofs.counting.whole.Goals as goal

pub unreachable-requires : goal.unreachable-requires
unreachable-requires c =
    let same : to_z w128 (of_z w128 c.args.number) ≡ c.args.number = omega (arith, ints) in
    not_over_one c.args.number _ same c.requires c.in-None.ensures

pub returns : goal.returns
returns c =
    let same : to_z w128 (of_z w128 c.args.number) ≡ c.args.number = omega (arith, ints) in
    c.in-Some.ensures.1 ∙ over-one _ ∙ ap whole_ℚ same
