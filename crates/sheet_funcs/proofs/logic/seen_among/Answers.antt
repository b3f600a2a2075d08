use Rattle.std.proofs.Common.{ap, sym, ◌∙◌}
use Rattle.sheet_funcs.specs.Arguments.{all_or_error}
use Rattle.sheet_funcs.specs.Items.{logical_at}
use Rattle.sheet_funcs.specs.SeenLogicals.{seen_or_error}
use Rattle.sheet_funcs.proofs.Collecting.{after-nothing, filter_map-parts}
use Rattle.sheet_funcs.proofs.logic.seen_among.Goals as goal

pub loop-item-init : goal.loop-item-init
loop-item-init c =
    rw c.nothing-seen.ensures
    (ap (λ rs. seen_or_error (all_or_error rs)) (filter_map-parts logical_at c.args.items.now) ∙ sym (after-nothing _))
