-- Which places the model of a sheet needs: the objective and the sides of its rows, and each cell at which a needed place looks.
use Rattle.std.specs.Prelude.{◌≡◌, true, List, [], ◌∷◌, ◌++◌, flat_map, Some, None, option_map, option_to_list, Contains, ⊤}
use Rattle.std.specs.FinMap.{contains_key}
use Rattle.std.specs.Option.{is_some}
use Rattle.cell_refs.specs.declared.cell.Cell.{Cell}
use Rattle.formula_ast.specs.Tree.{Tree}
use Rattle.recalculation.specs.Entries.{Book, Formula}
use Rattle.workbook.specs.Kinds.{book_of}
use Rattle.workbook.specs.State.{State}
use Rattle.cell_refs.specs.declared.place.Place.{Place}
use Rattle.cell_refs.specs.declared.place.Place.TheVariants as place
use Rattle.form_extraction.specs.Looked.{LooksAt, LooksFrom, forms_of, refers_to_circle}
use Rattle.form_extraction.specs.Places.{numbered_in}
use Rattle.sheet_problems.specs.FromSolverNames.{sides_in}
use Rattle.sheet_problems.specs.FromSolverNames.{RowOf, Statement}
use Rattle.sheet_problems.specs.Places.{Sides, tree_of}

-- a workbook, the expressions of right sides, the decision cells, and the places from which a model is made
pub record Asked : Type 0 where
  pub book : Book
  pub sides : Sides
  pub decisions : List Cell
  pub roots : List Place

-- the objective, where there is one, and both sides of each row
abbrev pub roots_of : Statement → List Place
roots_of s = option_to_list (option_map (λ c. place.Cell c) s.objective) ++ flat_map (λ (r : RowOf). place.Cell r.left ∷ r.right ∷ []) s.rows

abbrev pub asked_of : State → Statement → Asked
asked_of book s = record { book = book_of book; sides = sides_in book s.sheet; decisions = s.decisions; roots = roots_of s }

-- ---- what places look at
-- an expression looks at a cell with a text that isn't to be decided, as a cell with this formula would; one that refers to a circular
-- cell looks at each to which it refers
abbrev pub SideLooksAt : Asked → Tree → Cell → Type 0
SideLooksAt q t b =
    (numbered_in q.decisions b ≡ None) × (contains_key q.book.texts b ≡ true)
    × LooksFrom (refers_to_circle q.book (λ c. is_some (numbered_in q.decisions c)) t) (forms_of q.book (numbered_in q.decisions)) (Some (Formula t)) b

abbrev pub PlaceLooksAt : Asked → Place → Cell → Type 0
PlaceLooksAt q (place.Cell a) b = LooksAt q.book (numbered_in q.decisions) a b
PlaceLooksAt q (place.Side k) b = (t : Tree) × (tree_of q.sides k ≡ Some t) × SideLooksAt q t b

-- ---- what is needed
-- no decision cell: it needs no form, since its text counts for nothing
abbrev pub IsNoDecision : Asked → Place → Type 0
IsNoDecision q (place.Cell a) = numbered_in q.decisions a ≡ None
IsNoDecision q (place.Side k) = ⊤

pub data IsNeeded (q : Asked) : Place → Type 0 where
  root : (p : Place) → Contains q.roots p → IsNoDecision q p → IsNeeded q p
  looked : (p : Place) (b : Cell) → IsNeeded q p → PlaceLooksAt q p b → IsNeeded q (place.Cell b)
