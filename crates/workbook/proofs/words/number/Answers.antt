use Rattle.std.proofs.Common.{sym}
use Rattle.sheet_funcs.proofs.Operands.{spelled_number, spelled_none}
use Rattle.workbook.proofs.words.number.Goals as goal

pub returns-in-Ok : goal.returns-in-Ok
returns-in-Ok c = sym (spelled_number c.args.text.now c.in-Ok.number c.in-Ok.ensures.ok)

pub returns-in-Err : goal.returns-in-Err
returns-in-Err c = sym (spelled_none c.args.text.now (λ n spelled narrow. let e = c.in-Err.ensures.read n spelled narrow in cc))
