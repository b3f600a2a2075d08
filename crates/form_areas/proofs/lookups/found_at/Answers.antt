use Rattle.std.proofs.Common.{◌∙◌, ap, Ok}
use Rattle.sheet_funcs.specs.Lookups.{lookup_pick}
use Rattle.sheet_model.specs.declared.grid.Arg.TheVariants.{One}
use Rattle.form_values.specs.Known.{values_in}
use Rattle.form_areas.proofs.KnownKeys.{known_pick}
use Rattle.form_areas.proofs.lookups.found_at.Goals as goal

pub returns-clause-pick : goal.returns-clause-pick
returns-clause-pick c =
    c.lookup_at.ensures.pick ∙ ap (λ keys. lookup_pick (One c.in_ok-copy.field-0) keys (Ok c.args.kind)) c.in_ok-values.ensures
    ∙ ap (λ key. lookup_pick (One key) (values_in c.args.keys.now) (Ok c.args.kind)) c.in_ok-copy.ensures
    ∙ known_pick c.args.key.now c.args.keys.now c.args.kind c.requires.key c.requires.line
