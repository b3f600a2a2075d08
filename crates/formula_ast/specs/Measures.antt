-- How high a tree is, and to which areas it refers.
use Rattle.std.specs.Prelude.{ℕ, suc, max, List, [], ◌∷◌, ◌++◌}
use Rattle.cell_refs.specs.Areas.{Area}
use Rattle.formula_ast.specs.Tree.{Tree, Trees, none, more, Referred, Listed, Unlisted}
use Rattle.formula_ast.specs.Tree as tree

-- a tree without parts of its own has height 1, and another is one higher than its highest part
abbrev mutual
  pub height_of : Tree → ℕ
  height_of (tree.Array at rows columns items) = suc (greatest_height items)
  height_of (tree.Unknown at name args) = suc (greatest_height args)
  height_of (tree.Call at func args) = suc (greatest_height args)
  height_of (tree.Plus at x) = suc (height_of x)
  height_of (tree.Minus at x) = suc (height_of x)
  height_of (tree.Percent at x) = suc (height_of x)
  height_of (tree.Infix at op x y) = suc (max (height_of x) (height_of y))
  height_of _ = 1

  pub greatest_height : Trees → ℕ
  greatest_height none = 0
  greatest_height (more x xs) = max (height_of x) (greatest_height xs)

-- the areas of listed sheets
abbrev pub listed : List Referred → List Area
listed [] = []
listed (Listed a ∷ areas) = a ∷ listed areas
listed (Unlisted sheet ∷ areas) = listed areas

-- the areas to which a tree refers, from left to right
abbrev mutual
  pub references_of : Tree → List Area
  references_of (tree.Array at rows columns items) = all_references_of items
  references_of (tree.Reference at areas) = listed areas
  references_of (tree.Unknown at name args) = all_references_of args
  references_of (tree.Call at func args) = all_references_of args
  references_of (tree.Plus at x) = references_of x
  references_of (tree.Minus at x) = references_of x
  references_of (tree.Percent at x) = references_of x
  references_of (tree.Infix at op x y) = references_of x ++ references_of y
  references_of _ = []

  pub all_references_of : Trees → List Area
  all_references_of none = []
  all_references_of (more x xs) = references_of x ++ all_references_of xs
