-- What becomes of a node, as an end of it, and how its run goes on.
use Rattle.std.specs.Prelude.{◌≡◌, pos, ◌+ℤ◌, List, Option, Some, None, ⊤}
use Rattle.std.specs.Option.{option_map}
use Rattle.fractions.specs.Rational.{ℚ, ◌<ℚ◌}
use Rattle.frac128.specs.Narrow.{IsNarrowWhole}
use Rattle.linear_programs.specs.Program.{Program}
use Rattle.dictionaries.specs.Dictionary.{Dictionary}
use Rattle.dictionaries.specs.Bland.{HasEnded, NextPivot}
use Rattle.linear_models.specs.Box.{Box}
use Rattle.linear_models.specs.Model.{Model}
use Rattle.searches.specs.Trees.{End, empty, beaten, whole, split, clash, endless, Found}
use Rattle.searches.specs.Trails.{Outcome, Finishes, ComesTo}
use Rattle.search_ends.specs.declared.ends.NodeEnd.{NodeEnd}
use Rattle.search_ends.specs.declared.ends.NodeEnd.TheVariants as ends
use Rattle.search_ends.specs.declared.ends.NodeRun.{NodeRun}
use Rattle.search_ends.specs.declared.ends.NodeRun.TheVariants as runs
use Rattle.search_ends.specs.declared.ends.Pivot.{Pivot}

-- with the point and the direction where it has them
abbrev pub end_at : NodeEnd → List ℚ → List ℚ → End
end_at ends.Empty point way = empty
end_at (ends.Beaten v) point way = beaten v
end_at (ends.Whole v) point way = whole point v
end_at (ends.Split j f v) point way = split j f v
end_at (ends.Clash i j v) point way = clash i j v
end_at ends.Endless point way = endless point way

-- so it is in the box whatever point has the best value that was found before
abbrev pub ComesToWith : Model → Box → Option ℚ → Outcome → End → Type 0
ComesToWith m box best o e = (found : Option Found) → option_map (λ f. f.value) found ≡ best → ComesTo m box found o e

-- a value is better than the best one, if there is one
abbrev pub IsBetter : Option ℚ → ℚ → Type 0
IsBetter None v = ⊤
IsBetter (Some b) v = b <ℚ v

-- the run has ended at the dictionary, and its outcome comes to that end
pub record IsEndOf (m : Model) (box : Box) (best : Option ℚ) (p : Program) (d : Dictionary) (e : End) : Type 0 where
  pub outcome : Outcome
  pub finishes : Finishes p d outcome
  pub comes : ComesToWith m box best outcome e

-- the pivot is the dictionary's next one
abbrev pub IsNext : Dictionary → Pivot → Type 0
IsNext d next = NextPivot d next.row next.column

-- the run goes on at the dictionary, with that pivot; or it has ended there, and its outcome comes to that end, with the point and the direction
abbrev pub IsRunOf : Model → Box → Option ℚ → Program → Dictionary → NodeRun → List ℚ → List ℚ → Type 0
IsRunOf m box best p d (runs.Goes next) point way = (HasEnded d → ⊥) × IsNext d next
IsRunOf m box best p d (runs.Ends e) point way = IsEndOf m box best p d (end_at e point way)

-- the floor of a split and the whole number above it fit
abbrev pub HasNarrowParts : NodeEnd → Type 0
HasNarrowParts ends.Empty = ⊤
HasNarrowParts (ends.Beaten v) = ⊤
HasNarrowParts (ends.Whole v) = ⊤
HasNarrowParts (ends.Split j f v) = IsNarrowWhole f × IsNarrowWhole (f +ℤ pos 1)
HasNarrowParts (ends.Clash i j v) = ⊤
HasNarrowParts ends.Endless = ⊤

abbrev pub HasNarrowEnd : NodeRun → Type 0
HasNarrowEnd (runs.Goes next) = ⊤
HasNarrowEnd (runs.Ends e) = HasNarrowParts e
