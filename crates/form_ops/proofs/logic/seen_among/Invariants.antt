use Rattle.std.proofs.Common.{◌≡◌, drop}
use Rattle.std.specs.List.{filter_map}
use Rattle.form_table.specs.Logic.{element_truth}
use Rattle.form_ops.specs.SeenLogicals.{seen_all}
use Rattle.form_ops.proofs.logic.seen_among.Given as goal

-- with those of the elements that are left it is what is among all
abbrev pub invariant-loop-item : goal.invariant-loop-item
invariant-loop-item l =
    seen_all l.deciding l.seen (filter_map (element_truth l.argument) (drop l.item-index l.items)) ≡ seen_all l.deciding l.fn.before (filter_map (element_truth l.argument) l.items)
