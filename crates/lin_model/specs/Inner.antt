-- What inner contracts cite.
use Rattle.std.specs.Prelude.{◌≡◌, ℕ, List, ◌++◌, [], ◌∷◌, Option, Some, None, Result, Ok, Err, flat_map, ⊤}
use Rattle.std.specs.List.{AllByRecursion}
use Rattle.fractions.specs.Rational.{ℚ, zero_ℚ}
use Rattle.optimality.specs.Problem.{Relation}
use Rattle.calculations.specs.Calculation.{Calculation, exact, narrow}
use Rattle.affine_forms.specs.Forms.{AffineForm, IsForm, constant_form}
use Rattle.affine_forms.specs.declared.stop.FormStop.{FormStop}
use Rattle.affine_forms.specs.declared.stop.FormStop.TheVariants as stop
use Rattle.linear_models.specs.Box.{greater, lesser}
use Rattle.linear_models.specs.Statement.{Constraint, Statement}
use Rattle.linear_models.specs.Linear.{first_wide}
use Rattle.linear_models.specs.Agreement.{IsOwn, SidesReach}
use Rattle.linear_models.specs.Conditions.{Condition, Conditions, constraints, statement_of}
use Rattle.lin_model.specs.declared.stop.BuildStop.{BuildStop}
use Rattle.lin_model.specs.declared.stop.BuildStop.TheVariants as stops

-- a least value raised to some numbers, one after the other
abbrev pub raised : Option ℚ → List ℚ → Option ℚ
raised start [] = start
raised start (c ∷ cs) = raised (Some (greater start c)) cs

-- a greatest value lowered to them
abbrev pub lowered : Option ℚ → List ℚ → Option ℚ
lowered start [] = start
lowered start (c ∷ cs) = lowered (Some (lesser start c)) cs

-- the statement, where its objective doesn't matter
abbrev pub without_objective : Conditions → List (AffineForm × AffineForm) → Statement
without_objective c sides = statement_of c (constant_form zero_ℚ) sides

-- the rows of a calculation added to others
abbrev pub Pushed : {A : Type 0} → Calculation (List (AffineForm × Relation)) → List (AffineForm × Relation) → List (AffineForm × Relation) → Result A FormStop → Type 0
Pushed c before after (Ok _) = (rows : List (AffineForm × Relation)) × (narrow c ≡ Some rows) × (after ≡ before ++ rows)
Pushed c before after (Err stop.Wide) = narrow c ≡ None
Pushed c before after (Err stop.Memory) = ⊤

-- the rows that calculations give, or the first that isn't narrow
abbrev pub AreBuilt : List (Calculation (List (AffineForm × Relation))) → Result (List (AffineForm × Relation)) BuildStop → Type 0
AreBuilt cs (Ok rows) = (rows ≡ flat_map exact cs) × (first_wide 1 cs ≡ None)
AreBuilt cs (Err (stops.WideRow k)) = first_wide 1 cs ≡ Some k
AreBuilt cs (Err stops.Memory) = ⊤

-- the two sides are forms
abbrev pub AreForms : AffineForm × AffineForm → Type 0
AreForms sides = IsForm sides.0 × IsForm sides.1

-- a row with its sides fits n decisions
abbrev pub RowFits : ℕ → Constraint → Type 0
RowFits n r = IsOwn n r × SidesReach n r

abbrev pub RowsFit : ℕ → List Condition → List (AffineForm × AffineForm) → Type 0
RowsFit n rows sides = AllByRecursion (RowFits n) (constraints rows sides)
