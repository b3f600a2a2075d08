-- The names in formulas.
use Rattle.std.specs.Prelude.{◌||◌, ◌&&◌, ℕ, Bool, true, false, List, Option, Some, None}
use Rattle.cell_refs.specs.Names.{same_letters}
use Rattle.formula_ast.specs.Tree.{Tree, Trees, none, more}
use Rattle.formula_ast.specs.Tree as tree

abbrev mutual
  -- a name of a tree passes a test; those in calls of functions that there aren't stand for nothing
  pub some_use : (List ℕ → Bool) → Tree → Bool
  some_use test (tree.Name at name) = test name
  some_use test (tree.Call at func args) = any_use test args
  some_use test (tree.Plus at x) = some_use test x
  some_use test (tree.Minus at x) = some_use test x
  some_use test (tree.Percent at x) = some_use test x
  some_use test (tree.Infix at op x y) = some_use test x || some_use test y
  some_use test t = false

  pub any_use : (List ℕ → Bool) → Trees → Bool
  any_use test none = false
  any_use test (more t ts) = some_use test t || any_use test ts

abbrev mutual
  -- neither a name nor a call of a function that there isn't stands in a tree
  pub names_nothing : Tree → Bool
  names_nothing (tree.Name at name) = false
  names_nothing (tree.Unknown at name args) = false
  names_nothing (tree.Call at func args) = name_nothing args
  names_nothing (tree.Plus at x) = names_nothing x
  names_nothing (tree.Minus at x) = names_nothing x
  names_nothing (tree.Percent at x) = names_nothing x
  names_nothing (tree.Infix at op x y) = names_nothing x && names_nothing y
  names_nothing t = true

  pub name_nothing : Trees → Bool
  name_nothing none = true
  name_nothing (more t ts) = names_nothing t && name_nothing ts

-- the name for which is looked, or any
abbrev pub is_wanted : Option (List ℕ) → List ℕ → Bool
is_wanted None name = true
is_wanted (Some wanted) name = same_letters name wanted
