-- Forms of formulas by example, with the cells at which they look. What is expected was worked out by hand.
--
--        A         B        C      D     E    F
--   1                                    1    x
--   2    x         y        3      a     2    y
--   3    x >= 0    no form  #N/A         3    z
--   4              no form
--
use Rattle.std.specs.Prelude.{◌≡◌, ℕ, ◌-◌, ◌&&◌, ◌==◌, if◌then◌else◌, false, pos, List, [], ◌∷◌, Option, Some, None}
use Rattle.std.specs.List.{AllByRecursion}
use Rattle.fractions.specs.Rational.{ℚ}
use Rattle.fractions.specs.Whole.{whole_ℚ}
use Rattle.cell_refs.specs.Areas.{Area}
use Rattle.cell_refs.specs.declared.cell.Cell.{Cell}
use Rattle.cell_refs.specs.declared.error_kind.ErrorKind.TheVariants as kind
use Rattle.cell_refs.specs.declared.op.Op.TheVariants as op
use Rattle.cell_refs.specs.declared.span.Span.{Span}
use Rattle.formula_ast.specs.Tree.{Tree, Trees, Listed, none, more}
use Rattle.formula_ast.specs.Tree as tree
use Rattle.formula_ast.specs.declared.func.Func.TheVariants as func
use Rattle.sheet_model.specs.declared.value.Value.TheVariants.{Number, Text, Empty, Error}
use Rattle.affine_forms.specs.Forms.{AffineForm, decision_form}
use Rattle.affine_forms.specs.declared.rel.Rel.TheVariants as rel
use Rattle.form_values.specs.declared.abs.Abs.{Abs}
use Rattle.form_values.specs.Entries.{entry, test}
use Rattle.form_values.specs.declared.abs.Abs.TheVariants.{Known}
use Rattle.cell_refs.specs.declared.place.Place.TheVariants as place
use Rattle.form_extraction.specs.declared.forms.CellForm.{CellForm}
use Rattle.form_extraction.specs.declared.forms.CellForm.TheVariants.{Form, Refused, Blocked}
use Rattle.form_extraction.specs.declared.forms.Why.TheVariants as why
use Rattle.form_extraction.specs.Formulas.{part_of}
use Rattle.form_extraction.specs.Places.{formula_form}

-- ---- a sheet
abbrev pub cell : ℕ → ℕ → Cell
cell row column = record { sheet = record { 0 = 0 }; row = row; col = column }

abbrev pub whole : ℕ → ℚ
whole n = whole_ℚ (pos n)

-- the form of a cell among some, and that of an empty cell elsewhere
abbrev pub among : List ((ℕ × ℕ) × Option Abs) → Cell → Option Abs
among [] c = Some (Known Empty)
among (e ∷ others) c = if (e.0.0 == c.row) && (e.0.1 == c.col) then e.1 else among others c

abbrev pub forms : Cell → Option Abs
forms =
    among
    (((0, 4), Some (Known (Number (whole 1)))) ∷ ((0, 5), Some (entry (decision_form 0))) ∷
    ((1, 0), Some (entry (decision_form 0))) ∷ ((1, 1), Some (entry (decision_form 1))) ∷ ((1, 2), Some (Known (Number (whole 3)))) ∷
    ((1, 3), Some (Known (Text (97 ∷ [])))) ∷ ((1, 4), Some (Known (Number (whole 2)))) ∷ ((1, 5), Some (entry (decision_form 1))) ∷
    ((2, 0), Some (test rel.Ge (decision_form 0))) ∷ ((2, 1), None) ∷ ((2, 2), Some (Known (Error kind.NotAvailable))) ∷
    ((2, 4), Some (Known (Number (whole 3)))) ∷ ((2, 5), Some (entry (decision_form 2))) ∷ ((3, 1), None) ∷ [])

-- ---- formulas
abbrev pub span : ℕ → ℕ → Span
span start end = record { start = start; end = end }

abbrev pub area : ℕ → ℕ → ℕ → ℕ → Area
area top left bottom right = record { sheet = record { 0 = 0 }; top = top; left = left; further_rows = bottom - top; further_columns = right - left }

abbrev pub trees : List Tree → Trees
trees [] = none
trees (t ∷ others) = more t (trees others)

abbrev pub affine : ℚ → List (ℕ × ℚ) → AffineForm
affine constant terms = record { constant = constant; terms = terms }

-- a formula, its form, and the cells at which it looks
pub record Example : Type 0 where
  pub formula : Tree
  pub form : CellForm
  pub looks : List Cell

abbrev pub example : Tree → CellForm → List Cell → Example
example formula form looks = record { formula = formula; form = form; looks = looks }

abbrev pub Holds : Example → Type 0
Holds e = (formula_form forms e.formula ≡ e.form) × ((part_of forms e.formula).looks ≡ e.looks)

abbrev pub Hold : List Example → Type 0
Hold examples = AllByRecursion Holds examples

-- ---- forms and refusals
abbrev pub refusals : List Example
refusals =
    -- =IF(TRUE();A2;A2*A2)
    example (tree.Call (span 1 20) func.If (trees ((tree.Call (span 4 10) func.True (trees ([]))) ∷ (tree.Reference (span 11 13) (Listed (area 1 0 1 0) ∷ [])) ∷ (tree.Infix (span 14 19) op.Mul (tree.Reference (span 14 16) (Listed (area 1 0 1 0) ∷ [])) (tree.Reference (span 17 19) (Listed (area 1 0 1 0) ∷ []))) ∷ []))) (Form (entry (affine (whole 0) ((0, whole 1) ∷ [])))) (cell 1 0 ∷ []) ∷
    -- =IF(A2>=0;A2;0)
    example (tree.Call (span 1 15) func.If (trees ((tree.Infix (span 4 9) op.Ge (tree.Reference (span 4 6) (Listed (area 1 0 1 0) ∷ [])) (tree.Number (span 8 9) (whole 0))) ∷ (tree.Reference (span 10 12) (Listed (area 1 0 1 0) ∷ [])) ∷ (tree.Number (span 13 14) (whole 0)) ∷ []))) (Refused (span 1 15) why.Break) (cell 1 0 ∷ cell 1 0 ∷ []) ∷
    -- =IF(A2=0;B2;B2+A2)
    example (tree.Call (span 1 18) func.If (trees ((tree.Infix (span 4 8) op.Eq (tree.Reference (span 4 6) (Listed (area 1 0 1 0) ∷ [])) (tree.Number (span 7 8) (whole 0))) ∷ (tree.Reference (span 9 11) (Listed (area 1 1 1 1) ∷ [])) ∷ (tree.Infix (span 12 17) op.Add (tree.Reference (span 12 14) (Listed (area 1 1 1 1) ∷ [])) (tree.Reference (span 15 17) (Listed (area 1 0 1 0) ∷ []))) ∷ []))) (Form (entry (affine (whole 0) ((0, whole 1) ∷ (1, whole 1) ∷ [])))) (cell 1 0 ∷ cell 1 1 ∷ cell 1 1 ∷ cell 1 0 ∷ []) ∷
    -- =VLOOKUP(2;E1:F3;2;FALSE)
    example (tree.Call (span 1 25) func.VLookup (trees ((tree.Number (span 9 10) (whole 2)) ∷ (tree.Reference (span 11 16) (Listed (area 0 4 2 5) ∷ [])) ∷ (tree.Number (span 17 18) (whole 2)) ∷ (tree.Logical (span 19 24) false) ∷ []))) (Form (entry (affine (whole 0) ((1, whole 1) ∷ [])))) (cell 0 4 ∷ cell 1 4 ∷ cell 2 4 ∷ cell 1 5 ∷ []) ∷
    -- =VLOOKUP(A2;E1:F3;2;FALSE)
    example (tree.Call (span 1 26) func.VLookup (trees ((tree.Reference (span 9 11) (Listed (area 1 0 1 0) ∷ [])) ∷ (tree.Reference (span 12 17) (Listed (area 0 4 2 5) ∷ [])) ∷ (tree.Number (span 18 19) (whole 2)) ∷ (tree.Logical (span 20 25) false) ∷ []))) (Refused (span 9 11) why.Undecided) (cell 1 0 ∷ cell 0 4 ∷ cell 1 4 ∷ cell 2 4 ∷ []) ∷
    -- =A2*B2
    example (tree.Infix (span 1 6) op.Mul (tree.Reference (span 1 3) (Listed (area 1 0 1 0) ∷ [])) (tree.Reference (span 4 6) (Listed (area 1 1 1 1) ∷ []))) (Refused (span 1 6) why.Break) (cell 1 0 ∷ cell 1 1 ∷ []) ∷
    -- =A2>=0
    example (tree.Infix (span 1 6) op.Ge (tree.Reference (span 1 3) (Listed (area 1 0 1 0) ∷ [])) (tree.Number (span 5 6) (whole 0))) (Form (test rel.Ge (decision_form 0))) (cell 1 0 ∷ []) ∷
    -- =A2&"x"
    example (tree.Infix (span 1 7) op.Cat (tree.Reference (span 1 3) (Listed (area 1 0 1 0) ∷ [])) (tree.Text (span 4 7) (120 ∷ []))) (Refused (span 1 3) why.Undecided) (cell 1 0 ∷ []) ∷
    -- =SUM(A2:D2;1)
    example (tree.Call (span 1 13) func.Sum (trees ((tree.Reference (span 5 10) (Listed (area 1 0 1 3) ∷ [])) ∷ (tree.Number (span 11 12) (whole 1)) ∷ []))) (Form (entry (affine (whole 4) ((0, whole 1) ∷ (1, whole 1) ∷ [])))) (cell 1 0 ∷ cell 1 1 ∷ cell 1 2 ∷ cell 1 3 ∷ []) ∷
    -- =A2:B2
    example (tree.Reference (span 1 6) (Listed (area 1 0 1 1) ∷ [])) (Form (entry (affine (whole 0) ((0, whole 1) ∷ [])))) (cell 1 0 ∷ cell 1 1 ∷ []) ∷
    -- =H9
    example (tree.Reference (span 1 3) (Listed (area 8 7 8 7) ∷ [])) (Form (Known (Number (whole 0)))) (cell 8 7 ∷ []) ∷
    -- =B3+1
    example (tree.Infix (span 1 5) op.Add (tree.Reference (span 1 3) (Listed (area 2 1 2 1) ∷ [])) (tree.Number (span 4 5) (whole 1))) (Blocked (place.Cell (cell 2 1))) (cell 2 1 ∷ []) ∷
    []

-- ---- cells without a form
abbrev pub blocks : List Example
blocks =
    -- =A2*A2+B3
    example (tree.Infix (span 1 9) op.Add (tree.Infix (span 1 6) op.Mul (tree.Reference (span 1 3) (Listed (area 1 0 1 0) ∷ [])) (tree.Reference (span 4 6) (Listed (area 1 0 1 0) ∷ []))) (tree.Reference (span 7 9) (Listed (area 2 1 2 1) ∷ []))) (Blocked (place.Cell (cell 2 1))) (cell 1 0 ∷ cell 1 0 ∷ cell 2 1 ∷ []) ∷
    -- =B4+B3
    example (tree.Infix (span 1 6) op.Add (tree.Reference (span 1 3) (Listed (area 3 1 3 1) ∷ [])) (tree.Reference (span 4 6) (Listed (area 2 1 2 1) ∷ []))) (Blocked (place.Cell (cell 2 1))) (cell 3 1 ∷ cell 2 1 ∷ []) ∷
    -- =IF(TRUE();1;B3)
    example (tree.Call (span 1 16) func.If (trees ((tree.Call (span 4 10) func.True (trees ([]))) ∷ (tree.Number (span 11 12) (whole 1)) ∷ (tree.Reference (span 13 15) (Listed (area 2 1 2 1) ∷ [])) ∷ []))) (Form (Known (Number (whole 1)))) ([]) ∷
    -- =ROWS(A2:B4)
    example (tree.Call (span 1 12) func.Rows (trees ((tree.Reference (span 6 11) (Listed (area 1 0 3 1) ∷ [])) ∷ []))) (Form (Known (Number (whole 3)))) ([]) ∷
    -- =IF(B3;A2;1)
    example (tree.Call (span 1 12) func.If (trees ((tree.Reference (span 4 6) (Listed (area 2 1 2 1) ∷ [])) ∷ (tree.Reference (span 7 9) (Listed (area 1 0 1 0) ∷ [])) ∷ (tree.Number (span 10 11) (whole 1)) ∷ []))) (Blocked (place.Cell (cell 2 1))) (cell 2 1 ∷ []) ∷
    -- =IFERROR(C3;A2)
    example (tree.Call (span 1 15) func.IfError (trees ((tree.Reference (span 9 11) (Listed (area 2 2 2 2) ∷ [])) ∷ (tree.Reference (span 12 14) (Listed (area 1 0 1 0) ∷ [])) ∷ []))) (Form (entry (affine (whole 0) ((0, whole 1) ∷ [])))) (cell 2 2 ∷ cell 1 0 ∷ []) ∷
    -- =IFERROR(A2;B3)
    example (tree.Call (span 1 15) func.IfError (trees ((tree.Reference (span 9 11) (Listed (area 1 0 1 0) ∷ [])) ∷ (tree.Reference (span 12 14) (Listed (area 2 1 2 1) ∷ [])) ∷ []))) (Form (entry (affine (whole 0) ((0, whole 1) ∷ [])))) (cell 1 0 ∷ []) ∷
    -- =CHOOSE(2;B3;A2)
    example (tree.Call (span 1 16) func.Choose (trees ((tree.Number (span 8 9) (whole 2)) ∷ (tree.Reference (span 10 12) (Listed (area 2 1 2 1) ∷ [])) ∷ (tree.Reference (span 13 15) (Listed (area 1 0 1 0) ∷ [])) ∷ []))) (Form (entry (affine (whole 0) ((0, whole 1) ∷ [])))) (cell 1 0 ∷ []) ∷
    -- =CHOOSE(A2;B3;1)
    example (tree.Call (span 1 16) func.Choose (trees ((tree.Reference (span 8 10) (Listed (area 1 0 1 0) ∷ [])) ∷ (tree.Reference (span 11 13) (Listed (area 2 1 2 1) ∷ [])) ∷ (tree.Number (span 14 15) (whole 1)) ∷ []))) (Refused (span 8 10) why.Undecided) (cell 1 0 ∷ []) ∷
    []

-- ---- picks
abbrev pub picks : List Example
picks =
    -- =INDEX(A2:B4;1;2)
    example (tree.Call (span 1 17) func.Index (trees ((tree.Reference (span 7 12) (Listed (area 1 0 3 1) ∷ [])) ∷ (tree.Number (span 13 14) (whole 1)) ∷ (tree.Number (span 15 16) (whole 2)) ∷ []))) (Form (entry (affine (whole 0) ((1, whole 1) ∷ [])))) (cell 1 1 ∷ []) ∷
    -- =INDEX(A2:B4;B2;1)
    example (tree.Call (span 1 18) func.Index (trees ((tree.Reference (span 7 12) (Listed (area 1 0 3 1) ∷ [])) ∷ (tree.Reference (span 13 15) (Listed (area 1 1 1 1) ∷ [])) ∷ (tree.Number (span 16 17) (whole 1)) ∷ []))) (Refused (span 13 15) why.Undecided) (cell 1 1 ∷ []) ∷
    -- =SUMIF(E1:E3;">1";F1:F3)
    example (tree.Call (span 1 24) func.SumIf (trees ((tree.Reference (span 7 12) (Listed (area 0 4 2 4) ∷ [])) ∷ (tree.Text (span 13 17) (62 ∷ 49 ∷ [])) ∷ (tree.Reference (span 18 23) (Listed (area 0 5 2 5) ∷ [])) ∷ []))) (Form (entry (affine (whole 0) ((1, whole 1) ∷ (2, whole 1) ∷ [])))) (cell 0 4 ∷ cell 1 4 ∷ cell 2 4 ∷ cell 1 5 ∷ cell 2 5 ∷ []) ∷
    -- =SUMIF(E1:E3;A2;F1:F3)
    example (tree.Call (span 1 22) func.SumIf (trees ((tree.Reference (span 7 12) (Listed (area 0 4 2 4) ∷ [])) ∷ (tree.Reference (span 13 15) (Listed (area 1 0 1 0) ∷ [])) ∷ (tree.Reference (span 16 21) (Listed (area 0 5 2 5) ∷ [])) ∷ []))) (Refused (span 13 15) why.Undecided) (cell 0 4 ∷ cell 1 4 ∷ cell 2 4 ∷ cell 1 0 ∷ []) ∷
    -- =SUMIF(A2:C2;">1";1/{1;0;0})
    example (tree.Call (span 1 28) func.SumIf (trees ((tree.Reference (span 7 12) (Listed (area 1 0 1 2) ∷ [])) ∷ (tree.Text (span 13 17) (62 ∷ 49 ∷ [])) ∷ (tree.Infix (span 18 27) op.Div (tree.Number (span 18 19) (whole 1)) (tree.Array (span 20 27) 1 3 (trees ((tree.Number (span 21 22) (whole 1)) ∷ (tree.Number (span 23 24) (whole 0)) ∷ (tree.Number (span 25 26) (whole 0)) ∷ [])))) ∷ []))) (Form (Known (Error kind.Div0))) (cell 1 0 ∷ cell 1 1 ∷ cell 1 2 ∷ []) ∷
    -- =SUMIF(A2:C2;">1";1/{0;1;1})
    example (tree.Call (span 1 28) func.SumIf (trees ((tree.Reference (span 7 12) (Listed (area 1 0 1 2) ∷ [])) ∷ (tree.Text (span 13 17) (62 ∷ 49 ∷ [])) ∷ (tree.Infix (span 18 27) op.Div (tree.Number (span 18 19) (whole 1)) (tree.Array (span 20 27) 1 3 (trees ((tree.Number (span 21 22) (whole 0)) ∷ (tree.Number (span 23 24) (whole 1)) ∷ (tree.Number (span 25 26) (whole 1)) ∷ [])))) ∷ []))) (Refused (span 7 12) why.Undecided) (cell 1 0 ∷ cell 1 1 ∷ cell 1 2 ∷ []) ∷
    -- =SUMIF(A2:C2;">1";A3:C3)
    example (tree.Call (span 1 24) func.SumIf (trees ((tree.Reference (span 7 12) (Listed (area 1 0 1 2) ∷ [])) ∷ (tree.Text (span 13 17) (62 ∷ 49 ∷ [])) ∷ (tree.Reference (span 18 23) (Listed (area 2 0 2 2) ∷ [])) ∷ []))) (Refused (span 7 12) why.Undecided) (cell 1 0 ∷ cell 1 1 ∷ cell 1 2 ∷ []) ∷
    -- =SUMPRODUCT(A2:B2;E1:E2)
    example (tree.Call (span 1 24) func.SumProduct (trees ((tree.Reference (span 12 17) (Listed (area 1 0 1 1) ∷ [])) ∷ (tree.Reference (span 18 23) (Listed (area 0 4 1 4) ∷ [])) ∷ []))) (Form (Known (Error kind.Value))) (cell 1 0 ∷ cell 1 1 ∷ cell 0 4 ∷ cell 1 4 ∷ []) ∷
    -- =MMULT(A2:B2;E1:E2)
    example (tree.Call (span 1 19) func.MMult (trees ((tree.Reference (span 7 12) (Listed (area 1 0 1 1) ∷ [])) ∷ (tree.Reference (span 13 18) (Listed (area 0 4 1 4) ∷ [])) ∷ []))) (Form (entry (affine (whole 0) ((0, whole 1) ∷ (1, whole 2) ∷ [])))) (cell 1 0 ∷ cell 1 1 ∷ cell 0 4 ∷ cell 1 4 ∷ []) ∷
    -- =SUM(A2~B2;A2*B2)
    example (tree.Call (span 1 17) func.Sum (trees ((tree.Reference (span 5 10) (Listed (area 1 0 1 0) ∷ Listed (area 1 1 1 1) ∷ [])) ∷ (tree.Infix (span 11 16) op.Mul (tree.Reference (span 11 13) (Listed (area 1 0 1 0) ∷ [])) (tree.Reference (span 14 16) (Listed (area 1 1 1 1) ∷ []))) ∷ []))) (Refused (span 11 16) why.Break) (cell 1 0 ∷ cell 1 1 ∷ cell 1 0 ∷ cell 1 1 ∷ []) ∷
    []
