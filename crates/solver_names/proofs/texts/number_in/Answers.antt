use Rattle.std.proofs.Common.{◌∙◌, ap, sym}
use Rattle.sheet_funcs.specs.Numerals.{number_spelled}
use Rattle.sheet_funcs.proofs.Operands.{spelled_number, spelled_none}
use Rattle.solver_names.proofs.texts.number_in.Goals as goal

pub returns-in-Ok : goal.returns-in-Ok
returns-in-Ok c = sym (ap number_spelled (sym c.behind_equals.ensures) ∙ spelled_number c.behind_equals.result.now c.in-Ok.number c.in-Ok.ensures.ok)

pub returns-in-Err : goal.returns-in-Err
returns-in-Err c =
    sym (ap number_spelled (sym c.behind_equals.ensures) ∙ spelled_none c.behind_equals.result.now (λ n spelled narrow. let e = c.in-Err.ensures.read n spelled narrow in cc))
