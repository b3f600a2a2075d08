use Rattle.std.proofs.Common.{◌≢◌, arith, get_or, rules}
use Rattle.cell_refs.proofs.Numbers.{no_number, number_read}
use Rattle.cell_refs.proofs.units.number_up_to.Goals as goal

pub returns-then-number-most-clause-read : goal.returns-then-number-most-clause-read
returns-then-number-most-clause-read c =
    let plain : get_or c.args.text.now 0 0 ≢ 43 = search rules in
    number_read c.args.most c.args.text.now c.in-Ok.number c.in-Ok.ensures.value.0 plain (omega arith) (omega arith)

pub returns-in-Err-clause-read : goal.returns-in-Err-clause-read
returns-in-Err-clause-read c =
    let plain : get_or c.args.text.now 0 0 ≢ 43 = search rules in
    no_number c.args.most c.args.text.now c.in-Err.field-0 (omega arith) c.in-Err.ensures.value.0 plain
