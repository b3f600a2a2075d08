use Rattle.std.proofs.lemmas.Result.{err_from_is_err_and}
use Rattle.formula_parser.specs.Leaves.{corner_of}
use Rattle.formula_parser.specs.Settings.{seen}
use Rattle.formula_parser.proofs.Corners.{brackets_fail_second, brackets_fails, brackets_then, gives_as}
use Rattle.formula_parser.proofs.reference.brackets.Goals as goal

pub returns-in_err-first-clause-gives : goal.returns-in_err-first-clause-gives
returns-in_err-first-clause-gives c =
    let p = err_from_is_err_and c.from_residual.result c.from_residual.ensures.1 in
    rw (p.1, p.2) (brackets_fails (seen c.args.setting.now) c.args.symbols.now c.in_err-first.field-0.0 c.in_err-first.ensures.gives)

pub returns-in-Ok-clause-gives : goal.returns-in-Ok-clause-gives
returns-in-Ok-clause-gives c =
    gives_as _ c.before_bracket.result _ _ c.before_bracket.ensures.gives
    (brackets_then (seen c.args.setting.now) c.args.symbols.now (corner_of c.in_ok-first.first) c.in_ok-first.behind.now c.in-Ok.area c.in-Ok.rest.now c.in_ok-first.ensures.gives c.in-Ok.ensures.gives)

pub returns-clause-gives : goal.returns-clause-gives
returns-clause-gives c =
    brackets_fail_second (seen c.args.setting.now) c.args.symbols.now (corner_of c.in_ok-first.first) c.in_ok-first.behind.now c.in-Err.stop c.in_ok-first.ensures.gives c.in-Err.ensures.gives
