use Rattle.std.proofs.Common.{ap, sym}
use Rattle.sheet_funcs.specs.Criteria.{number_or_text, stands_in}
use Rattle.sheet_funcs.proofs.Operands.{spelled_number, spelled_none}
use Rattle.sheet_funcs.proofs.criterion.by_relation.Goals as goal

pub returns-in-Ok : goal.returns-in-Ok
returns-in-Ok c = λ v. ap (λ o. stands_in c.args.relation (number_or_text c.args.text.now o) v) (sym (spelled_number c.args.text.now c.in-Ok.number c.in-Ok.ensures.ok))

pub returns-in-Err : goal.returns-in-Err
returns-in-Err c =
    λ v. ap (λ o. stands_in c.args.relation (number_or_text c.args.text.now o) v) (sym (spelled_none c.args.text.now (λ n spelled narrow. let e = c.in-Err.ensures.read n spelled narrow in cc)))
