-- What is certain from a place on.
use Rattle.std.proofs.Common.{◌≡◌, ◌≤◌, length, drop}
use Rattle.form_table.specs.Criteria.{summed_error}
use Rattle.form_areas.proofs.met_places.summed_error_among.Given as goal

abbrev pub invariant-loop-place : goal.invariant-loop-place
invariant-loop-place l = record {
  summed : l.place ≤ length l.summed;
  tested : l.place ≤ length l.tested;
  certain : l.certain ≡ summed_error l.criterion (drop l.place l.summed) (drop l.place l.tested);
}

abbrev pub decreases-loop-place : goal.decreases-loop-place
decreases-loop-place l = l.place
