use Rattle.sheet_funcs.specs.Arguments.{elements_of}
use Rattle.form_values.specs.Refusals.{SomeBends}
use Rattle.form_truth.specs.Products.{FactorsBend, PairBends}
use Rattle.form_truth.proofs.Joining.{answers_right}
use Rattle.form_truth.proofs.answers.answers_are_right.Goals as goal

pub returns : goal.returns
returns c = record {
  values = answers_right (λ value args. SomeBends (λ x. elements_of (value x)));
  products = answers_right (λ value args. FactorsBend args);
  matrices = λ a b. answers_right (λ value args. PairBends a b);
}
