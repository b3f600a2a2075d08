use Rattle.std.proofs.Common.{ap}
use Rattle.formula_parser.specs.Settings.{seen}
use Rattle.formula_parser.proofs.Corners.{gives_as, reference_none, reference_other, reference_square, with_area}
use Rattle.formula_parser.proofs.reference.reference.Goals as goal

pub returns-in_default-clause-gives : goal.returns-in_default-clause-gives
returns-in_default-clause-gives c = ap with_area (reference_none (seen c.args.setting.now) c.args.symbols.now c.in_default.ensures.front)

pub returns-in-OpenSquare-clause-gives : goal.returns-in-OpenSquare-clause-gives
returns-in-OpenSquare-clause-gives c =
    gives_as _ c.brackets.result _ _ c.brackets.ensures.gives (reference_square (seen c.args.setting.now) c.args.symbols.now c.in-Some.symbol c.in-Some.rest.now c.in-Some.ensures.front c.in-OpenSquare.is)

pub returns-in_default-sign : goal.returns-in_default-sign
returns-in_default-sign c = record {
  gives =
      gives_as _ c.plain.result _ _ c.plain.ensures.gives
      (reference_other (seen c.args.setting.now) c.args.symbols.now c.in-Some.symbol c.in-Some.rest.now c.in-Some.ensures.front c.in_default-sign.not-OpenSquare);
  rest = c.plain.ensures.rest;
}
