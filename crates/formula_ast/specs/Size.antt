-- How many parts a tree has.
use Rattle.std.specs.Prelude.{ℕ, suc, ◌+◌}
use Rattle.formula_ast.specs.Tree.{Tree, Trees, none, more}
use Rattle.formula_ast.specs.Tree as tree

abbrev mutual
  pub node_count : Tree → ℕ
  node_count (tree.Number at x) = 1
  node_count (tree.WideNumber at x) = 1
  node_count (tree.Text at t) = 1
  node_count (tree.Logical at b) = 1
  node_count (tree.Fault at k) = 1
  node_count (tree.Missing at) = 1
  node_count (tree.Array at rows columns items) = suc (all_count items)
  node_count (tree.Reference at areas) = 1
  node_count (tree.Name at name) = 1
  node_count (tree.Unknown at name args) = suc (all_count args)
  node_count (tree.Call at func args) = suc (all_count args)
  node_count (tree.Plus at x) = suc (node_count x)
  node_count (tree.Minus at x) = suc (node_count x)
  node_count (tree.Percent at x) = suc (node_count x)
  node_count (tree.Infix at op x y) = suc (node_count x + node_count y)

  pub all_count : Trees → ℕ
  all_count none = 0
  all_count (more x xs) = node_count x + all_count xs
