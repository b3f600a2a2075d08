-- The standard programs of a model's boxes have few columns and rows.
use Rattle.std.proofs.Common.{ℕ, suc, ◌*◌, ◌≤◌, Bool, true, false, cond, List, [], ◌∷◌, ◌++◌, length, Option, Some, None, arith, length-append}
use Rattle.std.specs.Prelude.{flat_map}
use Rattle.std.proofs.lemmas.List.{length-map}
use Rattle.fractions.specs.Rational.{ℚ, neg_ℚ, zero_ℚ, one_ℚ, eq_ℚ}
use Rattle.optimality.specs.Problem.{Relation, at_most, equal, at_least}
use Rattle.affine_forms.specs.Forms.{AffineForm, coefficient}
use Rattle.linear_models.specs.Box.{Box}
use Rattle.linear_models.specs.Model.{Model}
use Rattle.linear_models.specs.Standard.{standard, splits_of, is_split, spread, limits, limits_of_row, limits_of_least, limits_of_greatest, limits_of_bounds, program_row, wanted}
use Rattle.linear_models.specs.Laws.{IsBoxOf}
use Rattle.search_bounds.specs.Enough.{most_columns, most_rows}

spread_few : (splits : List Bool) (c : ℕ → ℚ) → length (spread splits c) ≤ 2 * length splits
spread_few [] c = omega arith
spread_few (false ∷ splits) c = let h = spread_few splits (λ j. c (suc j)) in omega (arith, h)
spread_few (true ∷ splits) c = let h = spread_few splits (λ j. c (suc j)) in omega (arith, h)

row_few : (f : AffineForm) (r : Relation) → length (limits_of_row (f, r)) ≤ 2
row_few f at_most = omega arith
row_few f at_least = omega arith
row_few f equal = omega arith

rows_few : (rows : List (AffineForm × Relation)) → length (flat_map limits_of_row rows) ≤ 2 * length rows
rows_few [] = omega arith
rows_few (r ∷ rows) =
    let h = rows_few rows in let k = row_few r.0 r.1 in
    omega (arith, h, k, length-append (limits_of_row r) (flat_map limits_of_row rows))

least_few : (j : ℕ) (l : Option ℚ) → length (limits_of_least j l) ≤ 1
least_few j None = omega arith
least_few j (Some b) = cases (eq_ℚ b zero_ℚ)
  where
    cases : (v : Bool) → length (cond {A = List AffineForm} v [] (record { constant = b; terms = (j, neg_ℚ one_ℚ) ∷ [] } ∷ [])) ≤ 1
    cases true = omega arith
    cases false = omega arith

greatest_few : (j : ℕ) (g : Option ℚ) → length (limits_of_greatest j g) ≤ 1
greatest_few j None = omega arith
greatest_few j (Some b) = omega arith

bounds_few : (j : ℕ) (ls gs : List (Option ℚ)) → length (limits_of_bounds j ls gs) ≤ 2 * length ls
bounds_few j [] gs = omega arith
bounds_few j (l ∷ ls) [] = omega arith
bounds_few j (l ∷ ls) (g ∷ gs) =
    let h = bounds_few (suc j) ls gs in let a = least_few j l in let b = greatest_few j g in
    omega (arith, h, a, b, length-append (limits_of_least j l) (limits_of_greatest j g ++ limits_of_bounds (suc j) ls gs), length-append (limits_of_greatest j g) (limits_of_bounds (suc j) ls gs))

pub columns_few : (m : Model) (box : Box) (plain : Bool) → IsBoxOf m box → length (standard m box plain).objective ≤ most_columns m
columns_few m box plain b =
    let h = spread_few (splits_of box) (coefficient (wanted m plain).terms) in
    omega (arith, h, length-map box.least is_split, b.least)

pub rows_are_few : (m : Model) (box : Box) (plain : Bool) → IsBoxOf m box → length (standard m box plain).rows ≤ most_rows m
rows_are_few m box plain b =
    omega (arith, length-map (limits m box) (program_row (splits_of box)), length-append (flat_map limits_of_row m.rows) (limits_of_bounds 0 box.least box.greatest), rows_few m.rows, bounds_few 0 box.least box.greatest, b.least)
