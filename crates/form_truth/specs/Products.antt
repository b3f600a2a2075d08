-- SUMPRODUCT and MMULT. A sum of products may be affine, or even constant, where a product in it is neither; so where there is no form,
-- it is a product that bends.
use Rattle.std.specs.Prelude.{◌<◌, ℕ, List, [], ◌∷◌, map, take}
use Rattle.fractions.specs.Rational.{◌*ℚ◌}
use Rattle.calculations.specs.Calculation.{exact}
use Rattle.formula_ast.specs.declared.func.Func.TheVariants as func
use Rattle.sheet_model.specs.declared.value.Value.TheVariants.{Number}
use Rattle.sheet_funcs.specs.Arguments as arguments
use Rattle.sheet_funcs.specs.Products as products
use Rattle.form_values.specs.Meaning.{arg_at}
use Rattle.form_values.specs.Refusals.{Bends}
use Rattle.form_values.specs.declared.abs.AbsArg.{AbsArg}
use Rattle.form_table.specs.Wanted.{grid_of}
use Rattle.form_table.specs.Table.{form_called}
use Rattle.form_truth.specs.Rows.{IsOutcome}
use Rattle.form_truth.specs.Laws.{called_at}

-- the product of some of the first factors in one place
pub record FactorsBend (args : List AbsArg) : Type 0 where
  pub place : ℕ
  pub count : ℕ
  pub bent : Bends (λ x. Number (exact (products.product_of (take count (products.factors_at (map arguments.grid_of (map (arg_at x) args)) place)))))

abbrev pub SumProductIsRight : Type 0
SumProductIsRight =
    (args : List AbsArg) → IsOutcome (called_at func.SumProduct args) args (FactorsBend args) (exact (form_called func.SumProduct args))

-- the product of an element in a row of the first grid and the one for it in a column of the second
pub record PairBends (a b : AbsArg) : Type 0 where
  pub row : ℕ
  pub column : ℕ
  pub inner : ℕ
  pub is_row : row < (grid_of a).rows
  pub is_column : column < (grid_of b).columns
  pub is_inner : inner < (grid_of a).columns
  pub bent : Bends (λ x. Number (products.factor (arguments.at (arguments.grid_of (arg_at x a)) row inner) *ℚ products.factor (arguments.at (arguments.grid_of (arg_at x b)) inner column)))

abbrev pub MatrixProductIsRight : Type 0
MatrixProductIsRight =
    (a b : AbsArg) → IsOutcome (called_at func.MMult (a ∷ b ∷ [])) (a ∷ b ∷ []) (PairBends a b) (exact (form_called func.MMult (a ∷ b ∷ [])))
