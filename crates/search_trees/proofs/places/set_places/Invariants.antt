use Rattle.search_trees.proofs.Placing.{PlacedFrom}
use Rattle.search_trees.proofs.places.set_places.Given as goal

abbrev pub invariant-loop-place : goal.invariant-loop-place
invariant-loop-place l = PlacedFrom l.initial.nodes l.nodes l.place l.starts.items

abbrev pub decreases-loop-place : goal.decreases-loop-place
decreases-loop-place l = l.place
