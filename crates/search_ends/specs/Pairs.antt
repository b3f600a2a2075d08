-- Two decisions of one group that hold the same number. No public clause cites this module.
use Rattle.std.specs.Prelude.{◌≤◌, ℕ, ℤ, List}
use Rattle.fractions.specs.Rational.{ℚ}
use Rattle.fractions.specs.Vectors.{at}
use Rattle.optimality.specs.Problem.{Assignment}
use Rattle.linear_models.specs.Box.{Box}
use Rattle.searches.specs.Alike.{AreAlike, BoundsDiffer, SplitsAt, FloorIs}
use Rattle.searches.specs.Trees.{End, split, clash}

-- the least decision that is alike with the first one
pub record IsPartner (x : Assignment) (group : List ℕ) (i j : ℕ) : Type 0 where
  pub alike : AreAlike x group i j
  pub least : (b : ℕ) → AreAlike x group i b → j ≤ b

-- of all that are alike the first one of least number and then the second
pub record IsFirstPair (x : Assignment) (group : List ℕ) (i j : ℕ) : Type 0 where
  pub partner : IsPartner x group i j
  pub first : (a b : ℕ) → AreAlike x group a b → i ≤ a

-- what becomes of a node whose first two decisions that are alike are these: it is split at one whose bounds differ, and else closed
pub data IsParting (box : Box) (x : Assignment) (v : ℚ) (i j : ℕ) : End → Type 0 where
  by_split : (c : ℕ) (f : ℤ) → SplitsAt box i j c → FloorIs box c (at x c) f → IsParting box x v i j (split c f v)
  by_clash : ¬ (BoundsDiffer box i) → ¬ (BoundsDiffer box j) → IsParting box x v i j (clash i j v)
