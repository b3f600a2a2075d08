use Rattle.std.proofs.Common.{◌≡◌, ◌+◌, min, take}
use Rattle.std.specs.Str.Parse.{AllDigits, digits_value}
use Rattle.cell_refs.specs.declared.limits.TheConstants.{ROWS}
use Rattle.cell_refs.proofs.address.number_of_row.Given as goal

-- the number of the digits so far, or one past the last row
abbrev pub invariant-loop-digit : goal.invariant-loop-digit
invariant-loop-digit l = record {
  digits : AllDigits 10 (take l.digit-index l.digits);
  number : l.number ≡ min (digits_value 10 (take l.digit-index l.digits)) (ROWS + 1);
}
