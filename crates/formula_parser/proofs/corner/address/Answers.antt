use Rattle.formula_parser.specs.Leaves.{corner_of, given_of}
use Rattle.formula_parser.specs.Settings.{seen}
use Rattle.formula_parser.proofs.Corners.{address_none, address_other, address_bad, address_good}
use Rattle.formula_parser.proofs.corner.address.Goals as goal

pub returns-in_default-clause-gives : goal.returns-in_default-clause-gives
returns-in_default-clause-gives c = address_none (seen c.args.setting.now) (given_of c.args.sheet) c.args.symbols.now c.in_default.ensures.front

pub returns-in-Some-corner_on-clause-gives : goal.returns-in-Some-corner_on-clause-gives
returns-in-Some-corner_on-clause-gives c =
    address_good (seen c.args.setting.now) (given_of c.args.sheet) c.args.symbols.now c.in-Some.symbol c.in-Some.rest.now c.slice.result.now (corner_of c.in-Some-corner_on.corner) c.in-Some.ensures.front c.in-Word.is c.slice.ensures c.in-Some-corner_on.ensures.corner

pub returns-in-None-clause-gives : goal.returns-in-None-clause-gives
returns-in-None-clause-gives c =
    address_bad (seen c.args.setting.now) (given_of c.args.sheet) c.args.symbols.now c.in-Some.symbol c.in-Some.rest.now c.slice.result.now c.in-Some.ensures.front c.in-Word.is c.slice.ensures c.in-None.ensures.corner

pub returns-in_default-sign-clause-gives : goal.returns-in_default-sign-clause-gives
returns-in_default-sign-clause-gives c = address_other (seen c.args.setting.now) (given_of c.args.sheet) c.args.symbols.now c.in-Some.symbol c.in-Some.rest.now c.in-Some.ensures.front c.in_default-sign.not-Word
