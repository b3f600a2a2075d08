use Rattle.std.proofs.Common.{◌<◌, ◌+◌, ◌-◌, ◌/◌, ℕ, subst, length, arith}
use Rattle.std.proofs.lemmas.List.{get_or_default}
use Rattle.fractions.specs.Rational.{ℚ, zero_ℚ}
use Rattle.tableau.specs.Entries.{pair_at}
use Rattle.tableau.proofs.Searching.{all_earlier}
use Rattle.tableau.proofs.entries.first_not_before.Goals as goal

pub loop-low-preserved-then-kept-middle : goal.loop-low-preserved-then-kept-middle
loop-low-preserved-then-kept-middle c =
    let kept = c.args.kept.now in
    let middle : ℕ = c.loop-low.low + (c.loop-low.high - c.loop-low.low) / 2 in
    let within : middle < length kept = omega (arith, c.loop-low-test.true, c.loop-low.invariant.high) in
    let less : (pair_at kept middle).0 < c.args.col =
    subst (λ (p : ℕ × ℚ). p.0 < c.args.col) (get_or_default kept middle c.index-kept-middle.result (0, zero_ℚ) within) c.if-kept-middle.true in
    record {
      low = omega (arith, c.loop-low-test.true);
      high = c.loop-low.invariant.high;
      before = all_earlier kept middle c.args.col c.requires within less;
      after = c.loop-low.invariant.after;
    }
