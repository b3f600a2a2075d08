use Rattle.std.proofs.Common.{◌≡◌, ◌≢◌, ◌+◌, ◌∙◌, suc, ap, length, arith}
use Rattle.std.proofs.lemmas.List.{length-replicate}
use Rattle.fractions.specs.Rational.{zero_ℚ}
use Rattle.fractions.specs.Vectors.{at}
use Rattle.tableau.proofs.Made.{at-zeros, put_here, put_other, put_size, objective_by_numbers}
use Rattle.tableau.proofs.making.objective_row.Goals as goal

pub returns : goal.returns
returns c =
    let made = c.in_ok-made.made in
    let rest = c.set_rest.new.self in
    let n = length c.args.objective.now in
    let width : length made ≡ suc (n + 1) = ap length c.in_ok-made.ensures ∙ length-replicate (suc (n + 1)) zero_ℚ in
    let size = put_size made rest 0 c.args.constant c.set_rest.ensures in
    let second : 1 ≢ 0 = omega arith in
    objective_by_numbers c.args.constant c.args.objective.now c.put_all.new.row (omega (arith, c.put_all.ensures.size, size, width))
    (c.put_all.ensures.rest ∙ put_here made rest 0 c.args.constant c.set_rest.ensures (omega (arith, width)))
    (c.put_all.ensures.first ∙ put_other made rest 0 1 c.args.constant c.set_rest.ensures second ∙ ap (λ t. at t 1) c.in_ok-made.ensures ∙ at-zeros (suc (n + 1)) 1)
    c.put_all.ensures.numbers
