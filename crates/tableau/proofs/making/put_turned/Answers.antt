use Rattle.std.proofs.Common.{◌≡◌, ◌<◌, ◌∙◌, suc, sym, ap, length, arith}
use Rattle.std.proofs.lemmas.List.{get_or_read}
use Rattle.fractions.specs.Rational.{neg_ℚ, zero_ℚ}
use Rattle.fractions.specs.Vectors.{at}
use Rattle.fractions.proofs.Laws.{neg-zero}
use Rattle.tableau.proofs.Below.{below_more}
use Rattle.tableau.proofs.making.put_turned.Goals as goal

pub loop-j-preserved-then-is_zero : goal.loop-j-preserved-then-is_zero
loop-j-preserved-then-is_zero c =
    let h : c.loop-j.j < length c.args.numbers.now = omega arith in
    let z : at c.args.numbers.now c.loop-j.j ≡ zero_ℚ = sym (get_or_read c.args.numbers.now c.loop-j.j _ h c.index-numbers-j.is zero_ℚ) ∙ c.is_zero.ensures.0 c.if-is_zero.true in
    record {
      size = c.loop-j.invariant.size;
      rest = c.loop-j.invariant.rest;
      first = c.loop-j.invariant.first;
      done = below_more (λ q. at c.loop-j.row (suc (suc q)) ≡ neg_ℚ (at c.args.numbers.now q)) c.loop-j.j c.loop-j.invariant.done
          (c.loop-j.invariant.left c.loop-j.j (omega arith) ∙ sym (ap neg_ℚ z ∙ neg-zero));
      left = λ q l. c.loop-j.invariant.left q (omega (arith, l));
    }
