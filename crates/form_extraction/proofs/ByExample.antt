-- The examples hold.
use Rattle.std.proofs.Common.{refl}
use Rattle.fractions.specs.Rational.{eq_ℚ, computed}
use Rattle.fractions.specs.Floor.{floor_ℚ}
use Rattle.fractions.specs.Power.{power_ℚ}
use Rattle.frac128.specs.Narrow.{is_narrow, is_narrow_sum}
use Rattle.form_extraction.specs.Examples.{Hold, refusals, blocks, picks}

pub refusals_hold : Hold refusals
unfolding computed eq_ℚ is_narrow is_narrow_sum floor_ℚ power_ℚ
refusals_hold = ((refl, refl), ((refl, refl), ((refl, refl), ((refl, refl), ((refl, refl), ((refl, refl), ((refl, refl), ((refl, refl), ((refl, refl), ((refl, refl), ((refl, refl), ((refl, refl), tt))))))))))))

pub blocks_hold : Hold blocks
unfolding computed eq_ℚ is_narrow is_narrow_sum floor_ℚ power_ℚ
blocks_hold = ((refl, refl), ((refl, refl), ((refl, refl), ((refl, refl), ((refl, refl), ((refl, refl), ((refl, refl), ((refl, refl), ((refl, refl), tt)))))))))

pub picks_hold : Hold picks
unfolding computed eq_ℚ is_narrow is_narrow_sum floor_ℚ power_ℚ
picks_hold = ((refl, refl), ((refl, refl), ((refl, refl), ((refl, refl), ((refl, refl), ((refl, refl), ((refl, refl), ((refl, refl), ((refl, refl), ((refl, refl), tt))))))))))
