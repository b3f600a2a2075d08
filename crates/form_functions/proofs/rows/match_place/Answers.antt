use Rattle.form_table.specs.Lookups.{match_pick}
use Rattle.form_values.specs.declared.abs.Abs.TheVariants.{Known}
use Rattle.form_values.specs.declared.abs.AbsArg.TheVariants.{One}
use Rattle.sheet_funcs.specs.Lookups.{place_value}
use Rattle.form_functions.proofs.Knowing.{then_given, then_refused}
use Rattle.form_functions.proofs.rows.match_place.Goals as goal

pub returns-in-Ok : goal.returns-in-Ok
returns-in-Ok c =
    rw c.place_value.ensures (then_given (match_pick c.args.args.now) (λ pick. One (Known (place_value pick))) c.in-Ok.pick c.in-Ok.ensures)

pub returns-in-Err : goal.returns-in-Err
returns-in-Err c = then_refused (match_pick c.args.args.now) (λ pick. One (Known (place_value pick))) c.in-Err.refusal c.in-Err.ensures
