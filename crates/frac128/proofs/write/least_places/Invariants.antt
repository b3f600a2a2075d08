-- The power is that of the places so far, and none below them serves.
use Rattle.std.proofs.Common.{◌≡◌, ◌-◌, ◌^◌}
use Rattle.frac128.specs.Printed.{least_places}
use Rattle.frac128.proofs.write.least_places.Given as goal

abbrev pub invariant-loop-places : goal.invariant-loop-places
invariant-loop-places l = record {
  power : l.power ≡ 10 ^ l.places;
  rest : least_places (19 - l.places) l.places l.den ≡ least_places 19 0 l.den;
}
