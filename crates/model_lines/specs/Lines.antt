-- The lines by which a linear model is printed: the objective, the rows that are no bounds, the cells to be decided, and those that
-- are to be different.
use Rattle.std.specs.Prelude.{ℕ, Bool, true, false, List, [], ◌∷◌, ◌++◌, map, Option, Some, None, option_map, codes, decimal, slice_get, unwrap_or}
use Rattle.std.specs.List.{join_with_byte}
use Rattle.fractions.specs.Rational.{ℚ}
use Rattle.optimality.specs.Problem.{Relation, at_most, equal, at_least, Goal, greatest, least, reach}
use Rattle.cell_refs.specs.declared.cell.Cell.{Cell}
use Rattle.frac128.specs.Printed.{printed}
use Rattle.affine_forms.specs.Forms.{AffineForm}
use Rattle.linear_models.specs.Box.{Box}
use Rattle.model_lines.specs.Cells.{cell_with_sheet}

-- a linear model as it is printed: the cells to be decided, the objective where there is one, the rows that are no bounds with
-- their numbers, which decisions are to be whole, the bounds, and lists of decisions that are to be different
pub record ModelLines : Type 0 where
  pub decisions : List Cell
  pub aim : Option (Goal × AffineForm)
  pub rows : List (ℕ × (AffineForm × Relation))
  pub whole : List Bool
  pub bounds : Box
  pub groups : List (List ℕ)

-- ---- forms
-- the cell of a decision
abbrev pub decision_text : List (List ℕ) → List Cell → ℕ → List ℕ
decision_text sheets decisions j = unwrap_or (option_map (cell_with_sheet sheets) (slice_get decisions j)) []

-- each term as coefficient and cell, and then the constant
abbrev pub sum_text : List (List ℕ) → List Cell → List (ℕ × ℚ) → ℚ → List ℕ
sum_text sheets decisions [] base = printed base
sum_text sheets decisions (t ∷ terms) base =
    printed t.1 ++ (codes "*" ++ (decision_text sheets decisions t.0 ++ (codes " + " ++ sum_text sheets decisions terms base)))

abbrev pub form_text : List (List ℕ) → List Cell → AffineForm → List ℕ
form_text sheets decisions f = sum_text sheets decisions f.terms f.constant

-- ---- lines
abbrev pub goal_text : Goal → List ℕ
goal_text greatest = codes "max "
goal_text least = codes "min "
goal_text (reach v) = codes "reach " ++ (printed v ++ codes " ")

abbrev pub aim_line : List (List ℕ) → List Cell → Option (Goal × AffineForm) → List ℕ
aim_line sheets decisions None = codes "none"
aim_line sheets decisions (Some aim) = goal_text aim.0 ++ form_text sheets decisions aim.1

abbrev pub relation_text : Relation → List ℕ
relation_text at_most = codes " <= 0"
relation_text equal = codes " = 0"
relation_text at_least = codes " >= 0"

abbrev pub row_line : List (List ℕ) → List Cell → ℕ × (AffineForm × Relation) → List ℕ
row_line sheets decisions row =
    codes "row " ++ (decimal row.0 ++ (codes " " ++ (form_text sheets decisions row.1.0 ++ relation_text row.1.1)))

abbrev pub mark_text : Bool → List ℕ
mark_text true = codes " integer "
mark_text false = codes " continuous "

-- a bound, or a stroke where there is none
abbrev pub bound_text : Option ℚ → List ℕ
bound_text (Some x) = printed x
bound_text None = codes "-"

abbrev pub cell_line : List (List ℕ) → Cell → Bool → Option ℚ → Option ℚ → List ℕ
cell_line sheets c whole low high =
    codes "cell " ++ (cell_with_sheet sheets c ++ (mark_text whole ++ (bound_text low ++ (codes " " ++ bound_text high))))

abbrev pub cell_lines : List (List ℕ) → List Cell → List Bool → List (Option ℚ) → List (Option ℚ) → List (List ℕ)
cell_lines sheets (c ∷ cells) (w ∷ marks) (l ∷ lows) (h ∷ highs) = cell_line sheets c w l h ∷ cell_lines sheets cells marks lows highs
cell_lines sheets _ _ _ _ = []

-- the cells of a group in their order
abbrev pub members_text : List (List ℕ) → List Cell → List ℕ → List ℕ
members_text sheets decisions [] = []
members_text sheets decisions (j ∷ group) = codes " " ++ (decision_text sheets decisions j ++ members_text sheets decisions group)

abbrev pub group_line : List (List ℕ) → List Cell → List ℕ → List ℕ
group_line sheets decisions group = codes "different" ++ members_text sheets decisions group

-- all lines, without their ends
abbrev pub lines_of : List (List ℕ) → ModelLines → List (List ℕ)
lines_of sheets m =
    aim_line sheets m.decisions m.aim
    ∷ (map (row_line sheets m.decisions) m.rows
    ++ (cell_lines sheets m.decisions m.whole m.bounds.least m.bounds.greatest
    ++ (map (group_line sheets m.decisions) m.groups
    ++ codes "end" ∷ [])))

-- with line ends between them
abbrev pub model_text : List (List ℕ) → ModelLines → List ℕ
model_text sheets m = join_with_byte 10 (lines_of sheets m)
