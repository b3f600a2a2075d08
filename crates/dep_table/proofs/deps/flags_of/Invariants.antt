use Rattle.std.proofs.Common.{◌≡◌, map, take}
use Rattle.std.specs.FinSet as set
use Rattle.column_strips.specs.declared.formulas.Formula.{Formula}
use Rattle.dep_table.proofs.deps.flags_of.Given as goal

abbrev pub invariant-loop-formula : goal.invariant-loop-formula
invariant-loop-formula l = l.flags.items ≡ map (λ (f : Formula). set.contains l.leaves f.cell) (take l.formula-index l.formulas)
