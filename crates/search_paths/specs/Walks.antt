-- A box that is led along paths, and the bounds that their parts replace.
use Rattle.std.specs.Prelude.{◌≡◌, ◌<◌, ◌⊎◌, ℕ, List, [], ◌∷◌, length, Option, Some, slice_get, slice_set, slice_index_or}
use Rattle.fractions.specs.Rational.{ℚ}
use Rattle.linear_models.specs.Box.{Box, bound_at}
use Rattle.searches.specs.Trees.{Part, lower, upper, part_of, box_along}
use Rattle.search_paths.specs.declared.origin.Origin.{Origin}
use Rattle.search_paths.specs.declared.walk.Walk.{Walk}
use Rattle.search_paths.specs.declared.paths.Paths.TheInside.{Inside}
use Rattle.search_paths.specs.Tables.{grown, AreBefore}

-- the bound in whose place the part puts another
abbrev pub bound_in : Box → Part → Option ℚ
bound_in box (lower j f) = bound_at box.greatest j
bound_in box (upper j f) = bound_at box.least j

-- the box with that bound there
abbrev pub with_bound : Box → Part → Option ℚ → Box
with_bound box (lower j f) b = record { least = box.least; greatest = slice_set box.greatest j b }
with_bound box (upper j f) b = record { least = slice_set box.least j b; greatest = box.greatest }

-- the bounds in whose places the parts of a path put others, the first part's first
abbrev pub replaced_along : Box → List Part → List (Option ℚ)
replaced_along box [] = []
replaced_along box (p ∷ ps) = bound_in box p ∷ replaced_along (part_of box p) ps

abbrev pub box_of : Walk → Box
box_of w = record { least = w.least.items; greatest = w.greatest.items }

-- the box is that to which the path leads from the box of the roots
pub record IsLed (path : List Part) (w : Walk) : Type 0 where
  pub box : box_of w ≡ box_along w.root path
  pub replaced : w.replaced.items ≡ replaced_along w.root path

-- it is the box of the walk's node: the first one, or one that is there
pub record IsAt (os : List Origin) (w : Walk) : Type 0 where
  pub there : (w.at < length os) ⊎ (w.at ≡ 0)
  pub led : IsLed (slice_index_or (grown [] os) w.at []) w

-- each node comes before the one in front of it, the first is the target, and before the last comes the node where the way begins
abbrev pub IsWay : List Origin → List ℕ → ℕ → ℕ → Type 0
IsWay os [] begin target = begin ≡ target
IsWay os (n ∷ ns) begin target = (n ≡ target) × (o : Origin) × (slice_get os n ≡ Some o) × IsWay os ns begin o.parent

-- each node comes after its parent, and a box is kept
pub record IsHeld (t : Inside) : Type 0 where
  pub placed : AreBefore t.origins.items
  pub at : IsAt t.origins.items t.walk
