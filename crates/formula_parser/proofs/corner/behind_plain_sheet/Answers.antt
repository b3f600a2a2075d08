use Rattle.std.proofs.Common.{string_bytes}
use Rattle.formula_grammar.specs.LeafReading.{is_sheet_mark}
use Rattle.formula_parser.specs.Settings.{seen}
use Rattle.formula_parser.proofs.Corners.{gives_as, mark_none, mark_some, no_sheet_mark, one_none, one_other, one_such, sheet_none, some_sheet_mark}
use Rattle.formula_parser.proofs.corner.behind_plain_sheet.Goals as goal

pub returns-in_default-clause-gives : goal.returns-in_default-clause-gives
returns-in_default-clause-gives c = sheet_none (seen c.args.setting.now) is_sheet_mark c.args.sheet c.args.symbols.now (rw c.in_default.is at c.in_ok-name.ensures)

pub returns-in_default-first-clause-gives : goal.returns-in_default-first-clause-gives
returns-in_default-first-clause-gives c =
    mark_none (seen c.args.setting.now) is_sheet_mark c.args.sheet c.args.symbols.now (string_bytes c.in-Some.name) (rw c.in-Some.is at c.in_ok-name.ensures) (one_none is_sheet_mark c.args.symbols.now c.in_default-first.ensures.front)

pub returns-in-Exclamation-clause-gives : goal.returns-in-Exclamation-clause-gives
returns-in-Exclamation-clause-gives c =
    gives_as _ c.address.result _ _ c.address.ensures.gives
    (mark_some (seen c.args.setting.now) is_sheet_mark c.args.sheet c.args.symbols.now (string_bytes c.in-Some.name) c.in-Some-first.mark c.in-Some-first.rest.now (rw c.in-Some.is at c.in_ok-name.ensures)
    (one_such is_sheet_mark c.args.symbols.now c.in-Some-first.mark c.in-Some-first.rest.now c.in-Some-first.ensures.front (some_sheet_mark c.in-Some-first.mark.sign c.in-Exclamation.is)))

pub returns-in_default-sign : goal.returns-in_default-sign
returns-in_default-sign c = record {
  gives =
      mark_none (seen c.args.setting.now) is_sheet_mark c.args.sheet c.args.symbols.now (string_bytes c.in-Some.name) (rw c.in-Some.is at c.in_ok-name.ensures)
      (one_other is_sheet_mark c.args.symbols.now c.in-Some-first.mark c.in-Some-first.rest.now c.in-Some-first.ensures.front (no_sheet_mark c.in-Some-first.mark.sign c.in_default-sign.not-Exclamation c.in_default-sign.not-Point));
  on_sheet = tt;
  rest = tt;
}
