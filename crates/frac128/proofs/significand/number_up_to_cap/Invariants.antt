-- What the rest of the digits makes of the number so far is what all digits make, up to the cap.
use Rattle.std.proofs.Common.{◌≡◌, ◌^◌, ◌≤◌, drop, min}
use Rattle.std.specs.Str.Parse.{digits_value, digits_value_after}
use Rattle.frac128.proofs.significand.number_up_to_cap.Given as goal

abbrev pub invariant-loop-digit : goal.invariant-loop-digit
invariant-loop-digit l = record {
  rest : min (digits_value_after 10 l.so_far (drop l.digit-index l.digits)) (2 ^ 70) ≡ min (digits_value 10 l.digits) (2 ^ 70);
  small : l.so_far ≤ 2 ^ 70;
}
