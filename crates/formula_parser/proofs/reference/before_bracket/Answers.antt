use Rattle.std.proofs.Common.{ap}
use Rattle.formula_grammar.specs.LeafReading.{is_close_square}
use Rattle.formula_parser.proofs.Corners.{no_close_square, one_none, one_other, one_such, over_closing}
use Rattle.formula_parser.proofs.reference.before_bracket.Goals as goal

pub returns-in_default-clause-gives : goal.returns-in_default-clause-gives
returns-in_default-clause-gives c = over_closing c.args.area (one_none is_close_square c.args.symbols.now c.in_default.ensures.front)

pub returns-in-CloseSquare-clause-gives : goal.returns-in-CloseSquare-clause-gives
returns-in-CloseSquare-clause-gives c =
    over_closing c.args.area (one_such is_close_square c.args.symbols.now c.in-Some.close c.in-Some.after.now c.in-Some.ensures.front (ap is_close_square c.in-CloseSquare.is))

pub returns-in_default-sign : goal.returns-in_default-sign
returns-in_default-sign c = record {
  gives = over_closing c.args.area (one_other is_close_square c.args.symbols.now c.in-Some.close c.in-Some.after.now c.in-Some.ensures.front (no_close_square c.in-Some.close.sign c.in_default-sign.not-CloseSquare));
  rest = tt;
}
