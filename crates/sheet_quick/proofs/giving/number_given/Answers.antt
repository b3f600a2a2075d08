use Rattle.std.proofs.Common.{◌∙◌, sym}
use Rattle.sheet_funcs.proofs.Operands.{spelled_none, spelled_number}
use Rattle.sheet_quick.proofs.Gives.{given_short}
use Rattle.sheet_quick.proofs.giving.number_given.Goals as goal

pub returns-in-Ok : goal.returns-in-Ok
returns-in-Ok c =
    sym (given_short c.args.text.now c.if-is_empty.ensures c.if-text.false ∙ spelled_number c.args.text.now c.in-Ok.number c.in-Ok.ensures.ok)

pub returns-in-Err : goal.returns-in-Err
returns-in-Err c =
    sym (given_short c.args.text.now c.if-is_empty.ensures c.if-text.false ∙ spelled_none c.args.text.now (λ n spelled narrow. let e = c.in-Err.ensures.read n spelled narrow in cc))
