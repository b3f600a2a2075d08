-- What places of a small sheet are worth. What is expected was worked out by hand.
--
--        A    B    C                          D
--   1    x         =D1                        =C1
--   2    0    0
--   3    3    2    =SUMPRODUCT(A2:B2;A3:B3)
--   4    1    1    =SUMPRODUCT(A2:B2;A4:B4)   4
--   5    1    3    =SUMPRODUCT(A2:B2;A5:B5)   6
--
use Rattle.std.specs.Prelude.{◌≡◌, ℕ, ◌&&◌, ◌==◌, if◌then◌else◌, pos, List, [], ◌∷◌, map, Option, Some, None}
use Rattle.std.specs.List.{AllByRecursion}
use Rattle.std.specs.FinMap.{from_sorted}
use Rattle.fractions.specs.Rational.{ℚ}
use Rattle.fractions.specs.Whole.{whole_ℚ}
use Rattle.optimality.specs.Problem.{Assignment}
use Rattle.cell_refs.specs.declared.cell.Cell.{Cell}
use Rattle.cell_refs.specs.declared.op.Op.TheVariants as op
use Rattle.cell_refs.specs.declared.span.Span.{Span}
use Rattle.formula_ast.specs.Tree.{Tree, Listed, none, more}
use Rattle.formula_ast.specs.Tree as tree
use Rattle.formula_ast.specs.declared.func.Func.TheVariants as func
use Rattle.sheet_model.specs.declared.value.Value.TheVariants.{Number, Text}
use Rattle.form_extraction.specs.FromRecalculation.{Book, Entry, Constant, Formula, Malformed}
use Rattle.cell_refs.specs.declared.place.Place.{Place}
use Rattle.cell_refs.specs.declared.place.Place.TheVariants as place
use Rattle.sheet_problems.specs.Places.{Sides, worth_at}

-- ---- the sheet
abbrev pub cell : ℕ → ℕ → Cell
cell row column = record { sheet = record { 0 = 0 }; row = row; col = column }

abbrev pub whole : ℕ → ℚ
whole n = whole_ℚ (pos n)

abbrev pub span : Span
span = record { start = 0; end = 0 }

abbrev pub reference : ℕ → ℕ → ℕ → Tree
reference row column further = tree.Reference span (Listed record { sheet = record { 0 = 0 }; top = row; left = column; further_rows = 0; further_columns = further } ∷ [])

-- the sum of the products of A2:B2 and the two cells of another row
abbrev pub products : ℕ → Tree
products row = tree.Call span func.SumProduct (more (reference 1 0 1) (more (reference row 0 1) none))

abbrev pub texts : List ((ℕ × ℕ) × Entry)
texts =
    ((0, 0), Constant (Text (120 ∷ []))) ∷ ((0, 2), Formula (reference 0 3 0)) ∷ ((0, 3), Formula (reference 0 2 0)) ∷
    ((1, 0), Constant (Number (whole 0))) ∷ ((1, 1), Constant (Number (whole 0))) ∷
    ((2, 0), Constant (Number (whole 3))) ∷ ((2, 1), Constant (Number (whole 2))) ∷ ((2, 2), Formula (products 2)) ∷
    ((3, 0), Constant (Number (whole 1))) ∷ ((3, 1), Constant (Number (whole 1))) ∷ ((3, 2), Formula (products 3)) ∷ ((3, 3), Constant (Number (whole 4))) ∷
    ((4, 0), Constant (Number (whole 1))) ∷ ((4, 1), Constant (Number (whole 3))) ∷ ((4, 2), Formula (products 4)) ∷ ((4, 3), Constant (Number (whole 6))) ∷ []

abbrev pub said_in : List ((ℕ × ℕ) × Entry) → Cell → Entry
said_in [] c = Malformed
said_in (e ∷ others) c = if (e.0.0 == c.row) && (e.0.1 == c.col) then e.1 else said_in others c

-- each cell has a text, which says what stands in the table
abbrev pub sheet : Book
sheet = record { texts = from_sorted (map (λ (e : (ℕ × ℕ) × Entry). (cell e.0.0 e.0.1, 49 ∷ [])) texts); says = λ c text. said_in texts c }

-- a right side that is the expression A2+D1, of constraint 2
abbrev pub sides : Sides
sides = (2, tree.Infix span op.Add (reference 1 0 0) (reference 0 3 0)) ∷ (3, tree.Infix span op.Add (reference 1 0 0) (reference 3 3 0)) ∷ []

abbrev pub decisions : List Cell
decisions = cell 1 0 ∷ cell 1 1 ∷ []

-- ---- places
pub record Example : Type 0 where
  pub place : Place
  pub numbers : Assignment
  pub worth : Option ℚ

abbrev pub example : Place → Assignment → Option ℚ → Example
example place numbers worth = record { place = place; numbers = numbers; worth = worth }

abbrev pub Holds : Example → Type 0
Holds e = worth_at sheet sides decisions e.place e.numbers ≡ e.worth

abbrev pub worths : List Example
worths =
    -- decision cells, and a number
    example (place.Cell (cell 1 0)) (whole 4 ∷ whole 7 ∷ []) (Some (whole 4)) ∷
    example (place.Cell (cell 1 1)) (whole 4 ∷ whole 7 ∷ []) (Some (whole 7)) ∷
    example (place.Cell (cell 3 3)) (whole 4 ∷ whole 7 ∷ []) (Some (whole 4)) ∷
    -- an empty cell, a text and a circular cell
    example (place.Cell (cell 0 1)) (whole 4 ∷ whole 7 ∷ []) (Some (whole 0)) ∷
    example (place.Cell (cell 0 0)) (whole 4 ∷ whole 7 ∷ []) None ∷
    example (place.Cell (cell 0 2)) (whole 4 ∷ whole 7 ∷ []) None ∷
    -- formulas
    example (place.Cell (cell 2 2)) (whole 4 ∷ whole 0 ∷ []) (Some (whole 12)) ∷
    example (place.Cell (cell 2 2)) (whole 3 ∷ whole 1 ∷ []) (Some (whole 11)) ∷
    example (place.Cell (cell 4 2)) (whole 3 ∷ whole 1 ∷ []) (Some (whole 6)) ∷
    -- a side that refers to a circular cell, another one, and none
    example (place.Side 2) (whole 4 ∷ whole 0 ∷ []) None ∷
    example (place.Side 3) (whole 4 ∷ whole 0 ∷ []) (Some (whole 8)) ∷
    example (place.Side 4) (whole 4 ∷ whole 0 ∷ []) None ∷
    []

abbrev pub WorthsHold : Type 0
WorthsHold = AllByRecursion Holds worths
