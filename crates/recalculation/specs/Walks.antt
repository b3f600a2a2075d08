-- Walks along references, and circular cells.
use Rattle.std.specs.Prelude.{ℕ, zero, suc, Bool, true, false, not, ◌&&◌, List, length, Option, Some}
use Rattle.std.specs.List.{list_any}
use Rattle.std.specs.FinMap.{keys}
use Rattle.cell_refs.specs.declared.cell.Cell.{Cell}
use Rattle.cell_refs.specs.Areas.{within}
use Rattle.formula_ast.specs.Measures.{references_of}
use Rattle.recalculation.specs.Entries.{Book, Entry, Formula, entry}

-- whether a walk of n steps starts at a place, each step to one of the nodes
abbrev pub has_walk : {A : Type 0} → List A → (A → A → Bool) → ℕ → A → Bool
has_walk nodes step zero a = true
has_walk nodes step (suc n) a = list_any (λ b. step a b && has_walk nodes step n b) nodes

abbrev pub is_formula : Option Entry → Bool
is_formula (Some (Formula t)) = true
is_formula _ = false

-- whether what a cell says is a formula that refers to the cell b, in whichever of its parts
abbrev pub refers : Option Entry → Cell → Bool
refers (Some (Formula t)) b = list_any (λ area. within area b) (references_of t)
refers _ b = false

-- whether a is a formula cell that isn't a leaf and refers to b
abbrev pub steps_to : Book → (Cell → Bool) → Cell → Cell → Bool
steps_to book is_leaf a b = not (is_leaf a) && refers (entry book a) b

-- whether a is a formula cell that isn't a leaf, and a walk of as many steps as there are texts starts at it, each to a cell with
-- a text
abbrev pub is_circular : Book → (Cell → Bool) → Cell → Bool
is_circular book is_leaf a =
    is_formula (entry book a) && (not (is_leaf a) && has_walk (keys book.texts) (steps_to book is_leaf) (length (keys book.texts)) a)

-- a definition that takes the meaning of what it refers to, unfolded n times
abbrev pub unfolded : {A V : Type 0} → ((A → V) → A → V) → V → ℕ → A → V
unfolded layer start zero a = start
unfolded layer start (suc n) a = layer (unfolded layer start n) a
