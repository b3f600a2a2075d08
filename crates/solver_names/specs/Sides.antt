-- The right sides of a sheet's names that are expressions.
use Rattle.std.specs.Prelude.{ℕ, ◌-◌, ◌==◌, if◌then◌else◌, List, [], ◌∷◌, flat_map, slice_index, unwrap_or}
use Rattle.cell_refs.specs.declared.span.Span.{Span}
use Rattle.formula_ast.specs.Tree.{Tree, Trees, none, more}
use Rattle.formula_ast.specs.Tree as tree
use Rattle.workbook.specs.State.{State}
use Rattle.solver_names.specs.declared.constraints.Constraint.{Constraint}
use Rattle.solver_names.specs.declared.constraints.Side.{Side}
use Rattle.solver_names.specs.declared.constraints.Side.TheVariants as side
use Rattle.solver_names.specs.declared.name.Name.TheVariants as name
use Rattle.solver_names.specs.declared.said.Said.{Said}
use Rattle.solver_names.specs.declared.said.Said.TheVariants.{Says}
use Rattle.solver_names.specs.Read.{read_in}
use Rattle.solver_names.specs.Texts.{named}

-- ---- spans in the text itself, where an equals sign was put before it
abbrev pub one_less : Span → Span
one_less s = record { start = s.start - 1; end = s.end - 1 }

abbrev mutual
  pub placed : Tree → Tree
  placed (tree.Number s x) = tree.Number (one_less s) x
  placed (tree.WideNumber s x) = tree.WideNumber (one_less s) x
  placed (tree.Text s t) = tree.Text (one_less s) t
  placed (tree.Logical s b) = tree.Logical (one_less s) b
  placed (tree.Fault s k) = tree.Fault (one_less s) k
  placed (tree.Missing s) = tree.Missing (one_less s)
  placed (tree.Array s rows columns items) = tree.Array (one_less s) rows columns (all_placed items)
  placed (tree.Reference s areas) = tree.Reference (one_less s) areas
  placed (tree.Name s name) = tree.Name (one_less s) name
  placed (tree.Unknown s name args) = tree.Unknown (one_less s) name (all_placed args)
  placed (tree.Call s f args) = tree.Call (one_less s) f (all_placed args)
  placed (tree.Plus s x) = tree.Plus (one_less s) (placed x)
  placed (tree.Minus s x) = tree.Minus (one_less s) (placed x)
  placed (tree.Percent s x) = tree.Percent (one_less s) (placed x)
  placed (tree.Infix s o x y) = tree.Infix (one_less s) o (placed x) (placed y)

  pub all_placed : Trees → Trees
  all_placed none = none
  all_placed (more t ts) = more (placed t) (all_placed ts)

abbrev pub placed_in : List ℕ → Tree → Tree
placed_in text t = if slice_index text 0 == 61 then t else placed t

-- ---- the expressions, by the numbers of their constraints, which rise
abbrev pub side_tree : State → ℕ → ℕ → Said Side → List (ℕ × Tree)
side_tree book sheet k (Says (side.Tree t)) = (k, placed_in (unwrap_or (named book sheet (name.Right k)) []) t) ∷ []
side_tree book sheet k _ = []

abbrev pub sides_in : State → ℕ → List (ℕ × Tree)
sides_in book sheet = flat_map (λ (c : Constraint). side_tree book sheet c.k c.right) (read_in book sheet).constraints
