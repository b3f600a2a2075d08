-- The nodes of the code, as those of trees.
use Rattle.std.specs.Prelude.{◌^◌, ◌≤◌, List, length, All, Option}
use Rattle.opt_certificate.specs.Certificate.{Tree}
use Rattle.opt_certificate.specs.Nodes.{Node, split_at, best_leaf, empty_leaf, clash_leaf, IsListed, HasNarrowFloor}
use Rattle.opt_certificate.specs.declared.tree.TreeNode.{TreeNode}
use Rattle.opt_certificate.specs.declared.tree.TreeNode.TheVariants as nodes

-- the node, with its list of multipliers
abbrev pub node_of : TreeNode → Node
node_of (nodes.Split j f lower upper) = split_at j f lower upper
node_of (nodes.Best ys) = best_leaf ys.items
node_of (nodes.Empty ys) = empty_leaf ys.items
node_of (nodes.Clash i j) = clash_leaf i j

-- the nodes are no node or one tree's, each floor fits, and so does each place in 32 bits
pub record IsTree (nodes : List Node) : Type 0 where
  pub tree : Option Tree
  pub listed : IsListed nodes tree
  pub floors : All HasNarrowFloor nodes
  pub places : length nodes ≤ 2 ^ 32
