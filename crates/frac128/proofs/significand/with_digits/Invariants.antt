-- What the rest of the digits makes of the number so far is what all digits make of the first one.
use Rattle.std.proofs.Common.{◌≡◌, ◌+◌, ◌^◌, ◌<◌, ◌≤◌, drop}
use Rattle.frac128.specs.Trimmed.{with_digits}
use Rattle.frac128.proofs.significand.with_digits.Given as goal

abbrev pub invariant-loop-digit : goal.invariant-loop-digit
invariant-loop-digit l = record {
  rest : with_digits l.so_far (drop l.digit-index l.digits) ≡ with_digits l.fn.start l.digits;
  narrow : l.so_far.number < 2 ^ 127;
  zeros : l.so_far.zeros ≤ l.fn.start.zeros + l.digit-index;
}
