use Rattle.std.proofs.Common.{◌<◌, ◌≤◌, ℕ, subst, length, arith}
use Rattle.std.proofs.lemmas.List.{get_or_default}
use Rattle.fractions.specs.Rational.{ℚ, zero_ℚ}
use Rattle.tableau.specs.Entries.{pair_at}
use Rattle.tableau.proofs.Below.{below_more}
use Rattle.tableau.proofs.numbers.end_before.Goals as goal

pub loop-next-preserved : goal.loop-next-preserved
loop-next-preserved c =
    let kept = c.args.kept.now in
    let n = c.loop-next.next in
    let i = c.loop-next.invariant in
    let h : n < length kept = c.loop-next-test.true in
    let before : (pair_at kept n).0 < c.args.col =
    subst (λ (p : ℕ × ℚ). p.0 < c.args.col) (get_or_default kept n c.index-kept-next.result (0, zero_ℚ) h) c.if-kept-next.true in
    record {
      first = omega (arith, i.first);
      within = omega (arith, h);
      before = below_more (λ q. c.args.place ≤ q → (pair_at kept q).0 < c.args.col) n i.before (λ m. before);
    }
