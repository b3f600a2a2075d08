-- What a tree that is spelled may have that no formula may keep.
use Rattle.std.specs.Prelude.{ℕ, Bool, true, false, not, ◌&&◌, ◌||◌, nat_eq, nat_le, List, [], ◌∷◌}
use Rattle.formula_ast.specs.declared.func.Func.{Func}
use Rattle.formula_ast.specs.Functions.{least_of, most_of}
use Rattle.formula_ast.specs.Sound.{count}
use Rattle.formula_ast.specs.Tree.{Tree, Trees, none, more, Referred, Listed, Unlisted}
use Rattle.formula_ast.specs.Tree as tree

-- whether a tree has a part of which the test holds
abbrev mutual
  pub has_part : (Tree → Bool) → Tree → Bool
  has_part test (tree.Array at rows columns items) = test (tree.Array at rows columns items) || have_part test items
  has_part test (tree.Unknown at name args) = test (tree.Unknown at name args) || have_part test args
  has_part test (tree.Call at func args) = test (tree.Call at func args) || have_part test args
  has_part test (tree.Plus at x) = test (tree.Plus at x) || has_part test x
  has_part test (tree.Minus at x) = test (tree.Minus at x) || has_part test x
  has_part test (tree.Percent at x) = test (tree.Percent at x) || has_part test x
  has_part test (tree.Infix at op x y) = test (tree.Infix at op x y) || (has_part test x || has_part test y)
  has_part test x = test x

  pub have_part : (Tree → Bool) → Trees → Bool
  have_part test none = false
  have_part test (more x xs) = has_part test x || have_part test xs

abbrev pub some_unlisted : List Referred → Bool
some_unlisted [] = false
some_unlisted (Listed a ∷ areas) = some_unlisted areas
some_unlisted (Unlisted sheet ∷ areas) = true

-- a reference to a sheet that there isn't
abbrev pub is_lost : Tree → Bool
is_lost (tree.Reference at areas) = some_unlisted areas
is_lost _ = false

-- whether a function takes so many arguments
abbrev pub takes : Func → ℕ → Bool
takes f n = nat_le (least_of f) n && (nat_eq (most_of f) 255 || nat_le n (most_of f))

-- a call with too few or too many arguments
abbrev pub is_miscounted : Tree → Bool
is_miscounted (tree.Call at func args) = not (takes func (count args))
is_miscounted _ = false

-- a numeral that isn't narrow
abbrev pub is_wide : Tree → Bool
is_wide (tree.WideNumber at x) = true
is_wide _ = false
