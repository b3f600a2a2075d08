use Rattle.std.proofs.Common.{arith}
use Rattle.form_areas.proofs.Certain.{behind_all}
use Rattle.form_areas.proofs.met_places.summed_error_among.Goals as goal

pub loop-place-init : goal.loop-place-init
loop-place-init c = record {
  summed = omega (arith, c.min-place.ensures);
  tested = omega (arith, c.min-place.ensures);
  certain = rw c.min-place.ensures (behind_all c.args.criterion.now c.args.summed.now c.args.tested.now);
}
