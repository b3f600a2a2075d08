use Rattle.std.proofs.Common.{◌≡◌, ◌++◌, drop}
use Rattle.solver_names.specs.Constraints.{is_among}
use Rattle.solver_names.specs.Stated.{numbers_from}
use Rattle.solver_names.proofs.stated.numbers_among.Given as goal

-- with those that are left the numbers are all
abbrev pub invariant-loop-number : goal.invariant-loop-number
invariant-loop-number l = l.numbers.items ++ numbers_from l.number (is_among l.others) (drop l.number l.cells) ≡ numbers_from 0 (is_among l.others) l.cells
