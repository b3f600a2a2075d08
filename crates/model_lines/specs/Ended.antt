-- What inner contracts cite.
use Rattle.std.specs.Prelude.{ℕ, List, [], ◌∷◌, ◌++◌}
use Rattle.optimality.specs.Problem.{Relation}
use Rattle.affine_forms.specs.Assigned.{ReachTo}
use Rattle.affine_forms.specs.Forms.{AffineForm}

-- lines in a row, each with its end
abbrev pub ended : List (List ℕ) → List ℕ
ended [] = []
ended (l ∷ lines) = l ++ (10 ∷ ended lines)

-- the decisions of a row are among the first n
abbrev pub RowReaches : ℕ → AffineForm × Relation → Type 0
RowReaches n row = ReachTo row.0.terms n
