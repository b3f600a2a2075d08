use Rattle.form_values.specs.declared.abs.Abs.TheVariants.{Known, Affine, Test}
use Rattle.form_extraction.proofs.Books.{form_is_the_value}
use Rattle.form_extraction.proofs.value_laws.Goals as goal

pub returns-clause-value : goal.returns-clause-value
returns-clause-value c = form_is_the_value

pub returns-clause-known : goal.returns-clause-known
returns-clause-known c = λ book decisions a v h x. form_is_the_value book decisions a (Known v) h x

pub returns-clause-number : goal.returns-clause-number
returns-clause-number c = λ book decisions a f h x. form_is_the_value book decisions a (Affine f) h x

pub returns-clause-test : goal.returns-clause-test
returns-clause-test c = λ book decisions a f r h x. form_is_the_value book decisions a (Test f r) h x
