use Rattle.std.proofs.lemmas.Result.{err_from_is_err_and}
use Rattle.formula_parser.specs.Leaves.{corner_of}
use Rattle.formula_parser.specs.Settings.{seen}
use Rattle.formula_parser.proofs.Corners.{gives_as, plain_fails, plain_some}
use Rattle.formula_parser.proofs.reference.plain.Goals as goal

pub returns-in_err-first-clause-gives : goal.returns-in_err-first-clause-gives
returns-in_err-first-clause-gives c =
    let p = err_from_is_err_and c.from_residual.result c.from_residual.ensures.1 in
    rw (p.1, p.2) (plain_fails (seen c.args.setting.now) c.args.symbols.now c.in_err-first.field-0.0 c.in_err-first.ensures.gives)

pub returns-clause-gives : goal.returns-clause-gives
returns-clause-gives c =
    gives_as _ c.second_plain.result _ _ c.second_plain.ensures.gives (plain_some (seen c.args.setting.now) c.args.symbols.now (corner_of c.in_ok-first.first) c.in_ok-first.rest.now c.in_ok-first.ensures.gives)
