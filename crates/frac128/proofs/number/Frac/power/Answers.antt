use Rattle.std.proofs.Common.{rules, ◌≡◌, subst}
use Rattle.std.specs.Prelude.{MatchResult}
use Rattle.std.specs.Int.{w32}
use Rattle.std.proofs.lemmas.Int.{to_z-of_z}
use Rattle.frac128.specs.Narrow.{IsNarrow}
use Rattle.frac128.proofs.PowerValues.{turned_power, power_above}
use Rattle.frac128.proofs.number.Frac.power.Goals as goal

pub returns-then-exponent-lt0 : goal.returns-then-exponent-lt0
returns-then-exponent-lt0 c =
    let b = to_z-of_z w32 c.args.exponent c.ranges.exponent in
    turned_power c.power_of_times.result c.args.self _ c.args.exponent _ c.power_of_times.ensures (search rules) (rw b at c.if-exponent-lt0.true) (rw b at c.unsigned_abs-times.ensures.value) c.requires.other_than_zero

pub returns-else-exponent-lt0 : goal.returns-else-exponent-lt0
returns-else-exponent-lt0 c =
    let b = to_z-of_z w32 c.args.exponent c.ranges.exponent in
    let e = power_above c.args.self c.args.exponent _ (rw b at c.if-exponent-lt0.false) (rw b at c.unsigned_abs-times.ensures.value) in
    subst (λ y. MatchResult c.power_of_times-else-exponent-lt0.result (λ f. (f ≡ y) × IsNarrow y) (λ _. ¬ (IsNarrow y))) e c.power_of_times-else-exponent-lt0.ensures
