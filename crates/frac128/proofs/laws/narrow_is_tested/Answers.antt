use Rattle.frac128.proofs.NarrowLaws.{narrow_tests}
use Rattle.frac128.proofs.NarrowNumerals.{numeral_test}
use Rattle.frac128.proofs.laws.narrow_is_tested.Goals as goal

pub returns-clause-tests : goal.returns-clause-tests
returns-clause-tests c = narrow_tests

pub returns-clause-numerals : goal.returns-clause-numerals
returns-clause-numerals c = numeral_test
