use Rattle.std.proofs.Common.{rules, ◌≡◌}
use Rattle.fractions.specs.Rational.{zero_ℚ}
use Rattle.dictionaries.specs.Reading.{basic_solution}
use Rattle.dictionaries.proofs.Reaching.{reached_on_the_way}
use Rattle.dictionaries.proofs.OppositeEntries.{one_of_two_is_zero}
use Rattle.simplex.proofs.CellNumbers.{one_column, first_column, second_column}
use Rattle.simplex.proofs.read.cell_value.Goals as goal

pub returns-in-None : goal.returns-in-None
returns-in-None c = one_column c.args.of.now (basic_solution c.args.dict.now) c.args.cell _ c.in-None.is c.requires.cell c.value.ensures

pub returns-then-is_zero : goal.returns-then-is_zero
returns-then-is_zero c =
    let z : c.value-second.result ≡ zero_ℚ = search rules in
    first_column c.args.of.now (basic_solution c.args.dict.now) c.args.cell c.in-Some.other _ _ c.in-Some.is c.requires.cell c.value-first.ensures c.value-second.ensures z

pub returns-else-is_zero : goal.returns-else-is_zero
returns-else-is_zero c =
    let z : ¬ (c.value-second.result ≡ zero_ℚ) = search rules in
    second_column c.args.of.now (basic_solution c.args.dict.now) c.args.cell c.in-Some.other _ _ c.in-Some.is c.requires.cell c.value-second.ensures z c.neg.ensures
    (λ i o. one_of_two_is_zero.solution c.args.of.now c.args.dict.now c.args.cell.0 i (reached_on_the_way c.args.of.now c.args.dict.now c.rows-regular.ensures.regular c.requires.reached).dictionary o)
