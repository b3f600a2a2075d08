use Rattle.std.proofs.Common.{rules}
use Rattle.calculations.specs.Calculation.{sum, product}
use Rattle.fractions.specs.Rational.{neg_ℚ}
use Rattle.sheet_model.specs.Operators.{calculated, divided, raised}
use Rattle.sheet_model.proofs.arithmetic.infix_value.Goals as goal

pub returns-in-Add : goal.returns-in-Add
returns-in-Add c = rw c.in-Add.is (c.on_numbers.ensures (λ x y. calculated (sum x y)) (λ x y r called. search rules))

pub returns-in-Sub : goal.returns-in-Sub
returns-in-Sub c = rw c.in-Sub.is (c.on_numbers-in-Sub.ensures (λ x y. calculated (sum x (neg_ℚ y))) (λ x y r called. search rules))

pub returns-in-Mul : goal.returns-in-Mul
returns-in-Mul c = rw c.in-Mul.is (c.on_numbers-in-Mul.ensures (λ x y. calculated (product x y)) (λ x y r called. search rules))

pub returns-in-Div : goal.returns-in-Div
returns-in-Div c = rw c.in-Div.is (c.on_numbers-in-Div.ensures divided (λ x y r called. search rules))

pub returns-in-Pow : goal.returns-in-Pow
returns-in-Pow c = rw c.in-Pow.is (c.on_numbers-in-Pow.ensures raised (λ x y r called. search rules))
