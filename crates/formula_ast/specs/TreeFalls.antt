-- Each part of a tree has fewer parts than the tree, so that a recursion over expressions ends.
use Rattle.std.specs.Prelude.{◌+◌, ◌≤◌, max, List, [], ◌∷◌}
use Rattle.std.proofs.Common.{arith}
use denote.Param.Weighed.{most}
use Rattle.cell_refs.specs.declared.span.Span.{Span}
use Rattle.formula_ast.specs.declared.expr.Node.{Node}
use Rattle.formula_ast.specs.declared.expr.Node.TheVariants as node
use Rattle.formula_ast.specs.declared.expr.Expr.TheDeep.{deep-Node}
use Rattle.formula_ast.specs.Tree.{Tree, trees}
use Rattle.formula_ast.specs.View.{tree_of}
use Rattle.formula_ast.specs.Size.{node_count, all_count}

most_le : (xs : List Tree) → most (λ x. node_count x + 1) xs ≤ all_count (trees xs) + 1
most_le [] = omega arith
most_le (x ∷ xs) = omega (arith, most_le xs)

-- no part of a node has as many parts as the node's tree
pub depth_le-node_count : (at : Span) (n : Node) → max (deep-Node n) 0 ≤ node_count (tree_of at n)
depth_le-node_count at (node.Number x) = omega arith
depth_le-node_count at (node.Text t) = omega arith
depth_le-node_count at (node.Logical b) = omega arith
depth_le-node_count at (node.Fault k) = omega arith
depth_le-node_count at node.Missing = omega arith
depth_le-node_count at (node.Array rows columns items) = omega (arith, most_le items.items)
depth_le-node_count at (node.Reference areas) = omega arith
depth_le-node_count at (node.Name t) = omega arith
depth_le-node_count at (node.Unknown t args) = omega (arith, most_le args.items)
depth_le-node_count at (node.Call func args) = omega (arith, most_le args.items)
depth_le-node_count at (node.Plus x) = omega arith
depth_le-node_count at (node.Minus x) = omega arith
depth_le-node_count at (node.Percent x) = omega arith
depth_le-node_count at (node.Infix op x y) = omega arith
