use Rattle.std.proofs.Common.{◌≡◌, ◌≢◌, ◌<◌, ◌+◌, ◌∙◌, ℕ, suc, ap, subst, length, arith}
use Rattle.std.proofs.lemmas.List.{length-replicate}
use Rattle.fractions.specs.Rational.{zero_ℚ, neg_ℚ}
use Rattle.fractions.specs.Vectors.{at}
use Rattle.tableau.proofs.Made.{put_here, put_other, put_size, slack_by_numbers}
use Rattle.tableau.proofs.making.slack_row.Goals as goal

pub returns : goal.returns
returns c =
    let made = c.in_ok-made.made in
    let rest = c.set_rest.new.self in
    let first = c.put.new.self in
    let n = length c.coefficients-coefficients.result.now in
    let width : length made ≡ suc (n + 1) = ap length c.in_ok-made.ensures ∙ length-replicate (suc (n + 1)) zero_ℚ in
    let size = put_size made rest 0 c.bound.result c.set_rest.ensures in
    let same = put_size rest first 1 c.one.result c.put.ensures in
    let other : 0 ≢ 1 = omega arith in
    let numbers : (q : ℕ) → q < length c.args.row.now.coefficients → at c.put_turned.new.row (suc (suc q)) ≡ neg_ℚ (at c.args.row.now.coefficients q) =
    subst (λ xs. (q : ℕ) → q < length xs → at c.put_turned.new.row (suc (suc q)) ≡ neg_ℚ (at xs q)) c.coefficients-coefficients.ensures c.put_turned.ensures.numbers in
    slack_by_numbers c.args.row.now c.put_turned.new.row (omega (arith, c.put_turned.ensures.size, same, size, width, ap length c.coefficients-coefficients.ensures))
    (c.put_turned.ensures.rest ∙ put_other rest first 1 0 c.one.result c.put.ensures other ∙ put_here made rest 0 c.bound.result c.set_rest.ensures (omega (arith, width)) ∙ c.bound.ensures)
    (c.put_turned.ensures.first ∙ put_here rest first 1 c.one.result c.put.ensures (omega (arith, size, width)) ∙ c.one.ensures)
    numbers
