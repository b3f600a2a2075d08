use Rattle.formula_grammar.specs.declared.symbol.Sign.TheVariants as sign
use Rattle.formula_parser.specs.Settings.{seen}
use Rattle.formula_parser.proofs.Corners.{corner_none, corner_of_word, corner_other, gives_as}
use Rattle.formula_parser.proofs.corner.plain_corner.Goals as goal

pub returns-in_default-clause-gives : goal.returns-in_default-clause-gives
returns-in_default-clause-gives c = corner_none (seen c.args.setting.now) c.args.symbols.now c.in_default.ensures.front

pub returns-in-Word-clause-gives : goal.returns-in-Word-clause-gives
returns-in-Word-clause-gives c =
    gives_as _ c.plain_word.result _ _ c.plain_word.ensures.gives (corner_of_word (seen c.args.setting.now) c.args.symbols.now c.in-Some.symbol c.in-Some.rest.now sign.Word c.in-Some.ensures.front c.in-Word.is)

pub returns-in_default-sign : goal.returns-in_default-sign
returns-in_default-sign c = record {
  gives =
      gives_as _ c.behind_plain_sheet.result _ _ c.behind_plain_sheet.ensures.gives
      (corner_other (seen c.args.setting.now) c.args.symbols.now c.in-Some.symbol c.in-Some.rest.now c.in-Some.ensures.front c.in_default-sign.not-Word);
  on_sheet = c.behind_plain_sheet.ensures.on_sheet;
  rest = c.behind_plain_sheet.ensures.rest;
}
