-- What an expression says: its tree.
use Rattle.std.specs.Prelude.{map, string_bytes}
use Rattle.cell_refs.specs.declared.span.Span.{Span}
use Rattle.formula_ast.specs.declared.expr.Node.{Node}
use Rattle.formula_ast.specs.declared.expr.Node.TheVariants as node
use Rattle.formula_ast.specs.Tree.{Tree, Listed, trees}
use Rattle.formula_ast.specs.Tree as tree

-- the tree of a part
abbrev pub tree_of : Span → Node → Tree
tree_of at (node.Number x) = tree.Number at x
tree_of at (node.Text t) = tree.Text at (string_bytes t)
tree_of at (node.Logical b) = tree.Logical at b
tree_of at (node.Fault k) = tree.Fault at k
tree_of at node.Missing = tree.Missing at
tree_of at (node.Array rows columns items) = tree.Array at rows columns (trees items.items)
tree_of at (node.Reference areas) = tree.Reference at (map Listed areas.items)
tree_of at (node.Name t) = tree.Name at (string_bytes t)
tree_of at (node.Unknown t args) = tree.Unknown at (string_bytes t) (trees args.items)
tree_of at (node.Call func args) = tree.Call at func (trees args.items)
tree_of at (node.Plus x) = tree.Plus at x.value
tree_of at (node.Minus x) = tree.Minus at x.value
tree_of at (node.Percent x) = tree.Percent at x.value
tree_of at (node.Infix op x y) = tree.Infix at op x.value y.value
