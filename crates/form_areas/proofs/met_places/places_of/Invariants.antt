use Rattle.std.proofs.Common.{◌≡◌, ◌++◌, drop, map}
use Rattle.form_table.specs.Criteria.{places_from}
use Rattle.form_values.specs.Known.{value_in}
use Rattle.form_areas.proofs.met_places.places_of.Given as goal

-- the places so far and then those of the rest
abbrev pub invariant-loop-place : goal.invariant-loop-place
invariant-loop-place l = places_from 0 l.criterion (map value_in l.tested) ≡ l.places.items ++ places_from l.place l.criterion (map value_in (drop l.place l.tested))
