-- The fields of a part.
use Rattle.std.specs.Prelude.{ℕ, ℤ, pos, ◌+ℤ◌, Bool, true, false}
use Rattle.frac128.specs.Narrow.{IsNarrowWhole}
use Rattle.searches.specs.Trees.{Part, lower, upper}
use Rattle.search_paths.specs.declared.part.Part.TheInside.{Inside}

-- the part on the one side or the other
abbrev pub part_at : Bool → ℕ → ℤ → Part
part_at false j f = lower j f
part_at true j f = upper j f

abbrev pub part_of : Inside → Part
part_of p = part_at p.is_upper p.decision p.floor

-- the floor and the whole number above it fit
pub record IsNarrowPart (p : Inside) : Type 0 where
  pub floor : IsNarrowWhole p.floor
  pub above : IsNarrowWhole (p.floor +ℤ pos 1)
