use Rattle.std.proofs.Common.{◌∙◌, ap, sym, ◌∷◌, Some, Err}
use Rattle.sheet_funcs.specs.Picks.{taken_from}
use Rattle.sheet_funcs.proofs.Looking.{field_is, picked_there}
use Rattle.sheet_funcs.proofs.lookups.lookup.Goals as goal

pub returns-in_ok-copy-in-Ok : goal.returns-in_ok-copy-in-Ok
returns-in_ok-copy-in-Ok c = λ g table.
    ap Some
    (field_is c.args.table.now g (c.args.key.now ∷ c.args.place.now ∷ c.args.rest.now) c.in-Ok.record c.in-Ok.field c.in_ok-copy-in-Ok.field-0 c.requires table c.in-Ok.ensures.pick c.in-Ok.ensures.within
    (c.in_ok-copy-in-Ok.ensures ∙ c.at.ensures))

pub returns-in-Err : goal.returns-in-Err
returns-in-Err c = λ g table.
    ap Some
    (ap (taken_from g) (picked_there c.args.table.now g (c.args.key.now ∷ c.args.place.now ∷ c.args.rest.now) (Err c.in-Err.kind) c.requires table c.in-Err.ensures.pick) ∙ sym c.fault.ensures)
