use Rattle.std.proofs.Common.{◌≡◌, drop}
use Rattle.std.specs.List.{filter_map}
use Rattle.form_table.specs.Items.{item_at}
use Rattle.form_ops.specs.SeenNumbers.{taken_all}
use Rattle.form_ops.proofs.extremes.taken_among.Given as goal

-- with those of the elements that are left it is what is among all
abbrev pub invariant-loop-item : goal.invariant-loop-item
invariant-loop-item l =
    taken_all l.extremum l.argument l.taken (filter_map item_at (drop l.item-index l.items)) ≡ taken_all l.extremum l.argument l.fn.before (filter_map item_at l.items)
