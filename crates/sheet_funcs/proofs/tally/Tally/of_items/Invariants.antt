use Rattle.std.proofs.Common.{◌≡◌, drop, flat_map}
use Rattle.std.specs.Option.{option_to_list}
use Rattle.sheet_funcs.specs.Arguments.{all_or_error}
use Rattle.sheet_funcs.specs.Items.{number_at, numbers_among}
use Rattle.sheet_funcs.specs.Tallies.{tally_or_error}
use Rattle.sheet_funcs.proofs.tally.Tally.of_items.Given as goal

-- the rest beside what the numbers come to so far
abbrev pub invariant-loop-item : goal.invariant-loop-item
invariant-loop-item l =
    tally_or_error l.self l.fn.before (numbers_among l.items) ≡ tally_or_error l.self l.so_far (all_or_error (flat_map (λ v. option_to_list (number_at v)) (drop l.item-index l.items)))
