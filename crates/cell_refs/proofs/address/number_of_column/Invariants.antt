use Rattle.std.proofs.Common.{◌≡◌, ◌+◌, min, take}
use Rattle.cell_refs.specs.Address.{column_number}
use Rattle.cell_refs.specs.declared.limits.TheConstants.{COLUMNS}
use Rattle.cell_refs.proofs.address.number_of_column.Given as goal

-- the number of the letters so far, or one past the last column
abbrev pub invariant-loop-letter : goal.invariant-loop-letter
invariant-loop-letter l = l.number ≡ min (column_number (take l.letter-index l.letters)) (COLUMNS + 1)
