-- The sides among the places so far.
use Rattle.std.proofs.Common.{◌≡◌, ◌++◌, filter, take}
use Rattle.needed_forms.specs.Firsts.{is_side}
use Rattle.needed_forms.proofs.places.with_sides.Given as goal

abbrev pub invariant-loop-root : goal.invariant-loop-root
invariant-loop-root l = l.places.items ≡ l.fn.places.items ++ filter is_side (take l.root-index l.roots)
