-- Boxes that are led along a path and back, worked out by hand.
use Rattle.std.specs.Prelude.{◌≡◌, List, [], ◌∷◌, Some, None, pos}
use Rattle.fractions.specs.Whole.{whole_ℚ}
use Rattle.linear_models.specs.Box.{Box}
use Rattle.searches.specs.Trees.{Part, lower, upper, box_along}
use Rattle.search_paths.specs.Walks.{bound_in, replaced_along}

-- the first decision is at least 0 and at most 5, the second has no bounds
abbrev pub whole_box : Box
whole_box = record { least = Some (whole_ℚ (pos 0)) ∷ None ∷ []; greatest = Some (whole_ℚ (pos 5)) ∷ None ∷ [] }

-- the first is at most 3, the second at least 2 + 1, the first at most 1; and a third decision, which isn't there
abbrev pub path : List Part
path = lower 0 (pos 3) ∷ upper 1 (pos 2) ∷ lower 0 (pos 1) ∷ upper 2 (pos 7) ∷ []

-- what each step makes of it: 5 is put out of its place first, then nothing, then 3
pub record BoxesAreLed : Type 0 where
  pub box : box_along whole_box path ≡ record { least = Some (whole_ℚ (pos 0)) ∷ Some (whole_ℚ (pos 3)) ∷ []; greatest = Some (whole_ℚ (pos 1)) ∷ None ∷ [] }
  pub replaced : replaced_along whole_box path ≡ Some (whole_ℚ (pos 5)) ∷ None ∷ Some (whole_ℚ (pos 3)) ∷ None ∷ []
  pub one_part : bound_in whole_box (upper 0 (pos 1)) ≡ Some (whole_ℚ (pos 0))
