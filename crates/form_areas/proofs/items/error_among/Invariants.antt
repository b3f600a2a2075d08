use Rattle.std.proofs.Common.{◌≡◌, drop}
use Rattle.form_table.specs.Products.{error_among}
use Rattle.form_areas.proofs.items.error_among.Given as goal

-- no error so far
abbrev pub invariant-loop-item : goal.invariant-loop-item
invariant-loop-item l = error_among l.items ≡ error_among (drop l.item-index l.items)
