use Rattle.formula_grammar.specs.declared.symbol.Sign.TheVariants as sign
use Rattle.formula_parser.specs.Settings.{seen}
use Rattle.formula_parser.proofs.Corners.{gives_as, inner_none, inner_of, inner_other}
use Rattle.formula_parser.proofs.corner.inner_corner.Goals as goal

pub returns-in_default-clause-gives : goal.returns-in_default-clause-gives
returns-in_default-clause-gives c = inner_none (seen c.args.setting.now) c.args.symbols.now c.in_default.ensures.front

pub returns-in-Point-clause-gives : goal.returns-in-Point-clause-gives
returns-in-Point-clause-gives c =
    gives_as _ c.address.result _ _ c.address.ensures.gives (inner_of (seen c.args.setting.now) c.args.symbols.now c.in-Some.symbol c.in-Some.rest.now sign.Point c.in-Some.ensures.front c.in-Point.is)

pub returns-in-Word-clause-gives : goal.returns-in-Word-clause-gives
returns-in-Word-clause-gives c =
    gives_as _ c.inner_word.result _ _ c.inner_word.ensures.gives (inner_of (seen c.args.setting.now) c.args.symbols.now c.in-Some.symbol c.in-Some.rest.now sign.Word c.in-Some.ensures.front c.in-Word.is)

pub returns-in_default-sign : goal.returns-in_default-sign
returns-in_default-sign c = record {
  gives =
      gives_as _ c.behind_sheet.result _ _ c.behind_sheet.ensures.gives
      (inner_other (seen c.args.setting.now) c.args.symbols.now c.in-Some.symbol c.in-Some.rest.now c.in-Some.ensures.front c.in_default-sign.not-Point c.in_default-sign.not-Word);
  on_sheet = c.behind_sheet.ensures.on_sheet;
  rest = c.behind_sheet.ensures.rest;
}
