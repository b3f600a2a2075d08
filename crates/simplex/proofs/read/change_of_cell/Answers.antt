use Rattle.std.proofs.Common.{rules, ◌≡◌}
use Rattle.fractions.specs.Rational.{zero_ℚ}
use Rattle.dictionaries.specs.Reading.{change_along}
use Rattle.dictionaries.proofs.Solutions.{dictionary_once}
use Rattle.dictionaries.proofs.OppositeEntries.{one_of_two_is_zero}
use Rattle.simplex.proofs.CellNumbers.{one_column, first_column, second_column}
use Rattle.simplex.proofs.read.change_of_cell.Goals as goal

pub change-requires-clause-once : goal.change-requires-clause-once
change-requires-clause-once c = dictionary_once c.args.of.now c.args.dict.now c.requires.dictionary

pub change-first-requires-clause-once : goal.change-first-requires-clause-once
change-first-requires-clause-once c = dictionary_once c.args.of.now c.args.dict.now c.requires.dictionary

pub change-second-requires-clause-once : goal.change-second-requires-clause-once
change-second-requires-clause-once c = dictionary_once c.args.of.now c.args.dict.now c.requires.dictionary

pub returns-in-None : goal.returns-in-None
returns-in-None c = one_column c.args.of.now (change_along c.args.dict.now c.args.col) c.args.cell _ c.in-None.is c.requires.cell c.change.ensures

pub returns-then-is_zero : goal.returns-then-is_zero
returns-then-is_zero c =
    let z : c.change-second.result ≡ zero_ℚ = search rules in
    first_column c.args.of.now (change_along c.args.dict.now c.args.col) c.args.cell c.in-Some.other _ _ c.in-Some.is c.requires.cell c.change-first.ensures c.change-second.ensures z

pub returns-else-is_zero : goal.returns-else-is_zero
returns-else-is_zero c =
    let z : ¬ (c.change-second.result ≡ zero_ℚ) = search rules in
    second_column c.args.of.now (change_along c.args.dict.now c.args.col) c.args.cell c.in-Some.other _ _ c.in-Some.is c.requires.cell c.change-second.ensures z c.neg.ensures
    (λ i o. one_of_two_is_zero.direction c.args.of.now c.args.dict.now c.args.cell.0 i c.args.col c.requires.dictionary o c.requires.column c.requires.improves)
