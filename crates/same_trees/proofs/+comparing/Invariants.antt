-- The lists are equal where their rests are. A list of parts counts as more than all its parts, and a tree as more than its node.
use Rattle.std.proofs.Common.{◌≡◌, ◌↔◌, ◌+◌, ◌*◌, drop}
use Rattle.cell_refs.specs.declared.span.Span.{Span}
use Rattle.formula_ast.specs.Size.{node_count, all_count}
use Rattle.formula_ast.specs.Tree.{trees}
use Rattle.formula_ast.specs.View.{tree_of}
use Rattle.same_trees.proofs.+comparing.Given as goal

abbrev pub invariant-are_same-loop-place : goal.invariant-are_same-loop-place
invariant-are_same-loop-place l = (l.one ≡ l.other) ↔ (drop l.place l.one ≡ drop l.place l.other)

abbrev pub decreases-is_same : goal.decreases-is_same
decreases-is_same l = 3 * node_count l.one.now + 1

abbrev pub decreases-is_same_node : goal.decreases-is_same_node
decreases-is_same_node l = 3 * node_count (tree_of (record { start = 0; end = 0 }) l.one.now)

abbrev pub decreases-are_same : goal.decreases-are_same
decreases-are_same l = 3 * all_count (trees l.one.now) + 2
