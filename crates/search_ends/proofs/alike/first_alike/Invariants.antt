use Rattle.std.proofs.Common.{◌≡◌, ℕ, ◌<◌, List, Some}
use Rattle.std.specs.Prelude.{slice_get}
use Rattle.lin_model.specs.Lists.{lists_of}
use Rattle.searches.specs.Alike.{AreAlike}
use Rattle.search_ends.proofs.alike.first_alike.Given as goal

abbrev pub invariant-loop-group : goal.invariant-loop-group
invariant-loop-group l = (n : ℕ) (g : List ℕ) (a b : ℕ) → n < l.group-index → slice_get (lists_of l.groups) n ≡ Some g → AreAlike l.point g a b → ⊥
