-- The paths of nodes, and how they are held.
use Rattle.std.specs.Prelude.{◌≡◌, ◌<◌, ◌≤◌, ◌+◌, ℕ, List, [], ◌∷◌, ◌++◌, length, Option, Some, None, slice_get, slice_index_or, vec_capacity}
use Rattle.searches.specs.Trees.{Part}
use Rattle.search_paths.specs.declared.origin.Origin.{Origin}
use Rattle.search_paths.specs.Origins.{held_part, IsNarrowOrigin}
use Rattle.search_paths.specs.declared.paths.Paths.TheInside.{Inside}

-- the paths of nodes, by their numbers, and how many there is room for
pub record Table : Type 0 where
  pub paths : List (List Part)
  pub room : ℕ

abbrev pub path_at : Table → ℕ → List Part
path_at t n = slice_index_or t.paths n []

-- there is room for so many more
abbrev pub HasRoom : Table → ℕ → Type 0
HasRoom t n = length t.paths + n ≤ t.room

-- the path of a part of a node, and of a root
abbrev pub path_by : List (List Part) → ℕ → Option Part → List Part
path_by ps parent None = []
path_by ps parent (Some part) = slice_index_or ps parent [] ++ part ∷ []

-- the path of a node, after those of the nodes before it
abbrev pub path_from : List (List Part) → Origin → List Part
path_from ps o = path_by ps o.parent (held_part o)

-- the paths, and then those of further nodes
abbrev pub grown : List (List Part) → List Origin → List (List Part)
grown ps [] = ps
grown ps (o ∷ os) = grown (ps ++ path_from ps o ∷ []) os

abbrev pub table_of : Inside → Table
table_of t = record { paths = grown [] t.origins.items; room = vec_capacity t.origins }

-- a part comes after its parent, and a root has the first node in the place of a parent
pub record IsPlaced (i : ℕ) (o : Origin) : Type 0 where
  pub narrow : IsNarrowOrigin o
  pub after : (part : Part) → held_part o ≡ Some part → o.parent < i
  pub root : held_part o ≡ None → o.parent ≡ 0

-- each node does
abbrev pub AreBefore : List Origin → Type 0
AreBefore os = (i : ℕ) (o : Origin) → slice_get os i ≡ Some o → IsPlaced i o
