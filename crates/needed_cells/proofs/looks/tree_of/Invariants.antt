use Rattle.std.proofs.Common.{◌≡◌, ℕ, None, find, take}
use Rattle.std.specs.Prelude.{◌==◌}
use Rattle.formula_ast.specs.Tree.{Tree}
use Rattle.needed_cells.proofs.looks.tree_of.Given as goal

abbrev pub invariant-loop-side : goal.invariant-loop-side
invariant-loop-side l = find (λ (side : ℕ × Tree). side.0 == l.number) (take l.side-index l.sides) ≡ None
