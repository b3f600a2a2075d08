use Rattle.std.proofs.Common.{◌≡◌, drop}
use Rattle.calculations.specs.Calculation.{narrow, through}
use Rattle.affine_forms.specs.Steps.{added, total}
use Rattle.form_table.specs.Items.{forms_of}
use Rattle.form_areas.proofs.items.total.Given as goal

-- the numbers of the rest added to the sum so far
abbrev pub invariant-loop-arg : goal.invariant-loop-arg
invariant-loop-arg l = narrow (total (forms_of l.args)) ≡ narrow (through added l.total (forms_of (drop l.arg-index l.args)))
