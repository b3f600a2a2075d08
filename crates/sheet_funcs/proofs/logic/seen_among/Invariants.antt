use Rattle.std.proofs.Common.{◌≡◌, drop, flat_map}
use Rattle.std.specs.List.{filter_map}
use Rattle.std.specs.Option.{option_to_list}
use Rattle.sheet_funcs.specs.Arguments.{all_or_error}
use Rattle.sheet_funcs.specs.Items.{logical_at}
use Rattle.sheet_funcs.specs.SeenLogicals.{seen_or_error}
use Rattle.sheet_funcs.proofs.Collecting.{after_seen}
use Rattle.sheet_funcs.proofs.logic.seen_among.Given as goal

-- what was seen so far, and then what is among the rest
abbrev pub invariant-loop-item : goal.invariant-loop-item
invariant-loop-item l =
    seen_or_error (all_or_error (filter_map logical_at l.items)) ≡ after_seen l.seen (seen_or_error (all_or_error (flat_map (λ v. option_to_list (logical_at v)) (drop l.item-index l.items))))
