use Rattle.std.proofs.Common.{◌≡◌, drop}
use Rattle.form_table.specs.Lookups.{is_never_found}
use Rattle.form_areas.proofs.searches.is_never_found.Given as goal

-- the elements so far say nothing
abbrev pub invariant-loop-item : goal.invariant-loop-item
invariant-loop-item l = is_never_found l.kind l.key l.items ≡ is_never_found l.kind l.key (drop l.item-index l.items)
