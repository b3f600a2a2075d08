use Rattle.std.proofs.Common.{◌≡◌, drop}
use Rattle.calculations.specs.Calculation.{narrow, through}
use Rattle.affine_forms.specs.Steps.{added}
use Rattle.form_areas.proofs.AmongItems.{numbers_at}
use Rattle.form_areas.proofs.items.add_elements.Given as goal

-- the numbers of the rest added to the sum so far
abbrev pub invariant-loop-item : goal.invariant-loop-item
invariant-loop-item l = narrow (through added l.initial.total (numbers_at l.items)) ≡ narrow (through added l.total (numbers_at (drop l.item-index l.items)))
