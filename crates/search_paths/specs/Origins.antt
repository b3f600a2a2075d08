-- Where a node comes from, as a part of its parent.
use Rattle.std.specs.Prelude.{ℕ, ℤ, pos, ◌+ℤ◌, Option, Some, None}
use Rattle.frac128.specs.Narrow.{IsNarrowWhole}
use Rattle.searches.specs.Trees.{Part, lower, upper}
use Rattle.search_paths.specs.declared.origin.Origin.{Origin}
use Rattle.search_paths.specs.declared.origin.Side.{Side}
use Rattle.search_paths.specs.declared.origin.Side.TheVariants as sides

abbrev pub part_on : Side → ℕ → ℤ → Option Part
part_on sides.Root j f = None
part_on sides.Lower j f = Some (lower j f)
part_on sides.Upper j f = Some (upper j f)

-- the part of the parent; a root is none
abbrev pub held_part : Origin → Option Part
held_part o = part_on o.side o.decision o.floor

-- the floor and the whole number above it fit
pub record IsNarrowOrigin (o : Origin) : Type 0 where
  pub floor : IsNarrowWhole o.floor
  pub above : IsNarrowWhole (o.floor +ℤ pos 1)
