use Rattle.std.proofs.Common.{◌+◌, ◌++◌, ◌∙◌, ap, sym, arith, drop, map}
use Rattle.form_table.specs.Criteria.{places_from}
use Rattle.form_values.specs.Known.{value_in}
use Rattle.form_areas.proofs.Meeting.{place_skipped, place_taken}
use Rattle.form_areas.proofs.met_places.places_of.Goals as goal
use Rattle.form_areas.proofs.met_places.places_of.Goals.{else-is_met, then-is_met+in_ok-push}

pub loop-place-preserved : goal.loop-place-preserved
loop-place-preserved c =
    let tested = c.args.tested.now in
    let i = c.loop-place.place in
    let t = c.index-tested-place.result in
    elim c.if-is_met.branch [
      | then-is_met+in_ok-push w ↦
          place_taken c.args.criterion.now tested i _ c.loop-place.places.items t (omega arith) c.index-tested-place.is c.loop-place.invariant c.if-is_met.places.items (sym c.is_met.ensures ∙ w.if-is_met.true) (ap (λ v. v.items) w.places-is ∙ w.in_ok-push.ensures.items)
      | else-is_met w ↦
          place_skipped c.args.criterion.now tested i _ c.loop-place.places.items t (omega arith) c.index-tested-place.is c.loop-place.invariant (sym c.is_met.ensures ∙ w.if-is_met.false)
          ∙ ap (λ v. v.items ++ places_from (i + 1) c.args.criterion.now (map value_in (drop (i + 1) tested))) (sym w.places-is)
    ]
