use Rattle.std.proofs.lemmas.Result.{err_from_is_err_and}
use Rattle.formula_grammar.specs.LeafReading.{inner_at}
use Rattle.formula_parser.specs.Leaves.{corner_of}
use Rattle.formula_parser.specs.Settings.{seen}
use Rattle.formula_parser.proofs.Corners.{gives_as, second_end, second_fails, second_other, second_some}
use Rattle.formula_parser.proofs.reference.second_inner.Goals as goal

pub returns-in_default-clause-gives : goal.returns-in_default-clause-gives
returns-in_default-clause-gives c = gives_as _ c.area_before.result _ _ c.area_before.ensures.gives (second_end (seen c.args.setting.now) (inner_at (seen c.args.setting.now)) (corner_of c.args.first.now) c.args.symbols.now c.in_default.ensures.front)

pub returns-in_err-second-in-Colon-clause-gives : goal.returns-in_err-second-in-Colon-clause-gives
returns-in_err-second-in-Colon-clause-gives c =
    let p = err_from_is_err_and c.from_residual.result c.from_residual.ensures.1 in
    rw (p.1, p.2) (second_fails (seen c.args.setting.now) (inner_at (seen c.args.setting.now)) (corner_of c.args.first.now) c.args.symbols.now c.in-Some.mark c.in-Some.behind.now c.in_err-second-in-Colon.field-0.0 c.in-Some.ensures.front c.in-Colon.is c.in_err-second-in-Colon.ensures.gives)

pub returns-in_ok-second-in-Colon-clause-gives : goal.returns-in_ok-second-in-Colon-clause-gives
returns-in_ok-second-in-Colon-clause-gives c =
    gives_as _ c.area_before-in-Colon.result _ _ c.area_before-in-Colon.ensures.gives
    (second_some (seen c.args.setting.now) (inner_at (seen c.args.setting.now)) (corner_of c.args.first.now) c.args.symbols.now c.in-Some.mark c.in-Some.behind.now (corner_of c.in_ok-second-in-Colon.second) c.in_ok-second-in-Colon.rest.now c.in-Some.ensures.front c.in-Colon.is c.in_ok-second-in-Colon.ensures.gives)

pub returns-in_default-sign : goal.returns-in_default-sign
returns-in_default-sign c = record {
  gives = gives_as _ c.area_before-in_default-sign.result _ _ c.area_before-in_default-sign.ensures.gives (second_other (seen c.args.setting.now) (inner_at (seen c.args.setting.now)) (corner_of c.args.first.now) c.args.symbols.now c.in-Some.mark c.in-Some.behind.now c.in-Some.ensures.front c.in_default-sign.not-Colon);
  rest = c.area_before-in_default-sign.ensures.rest;
}
