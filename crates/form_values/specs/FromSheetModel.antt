-- What the crates above name of sheet_model, handed on.
pub use Rattle.sheet_model.specs.Conversions.{logical_in, number_in}
pub use Rattle.sheet_model.specs.Operators.{asks_for, infix_value, minus_value, percent_value}
pub use Rattle.sheet_model.specs.Tests.{is_exponent, is_zero}
pub use Rattle.sheet_model.specs.declared.value.Value.{Value}
pub use Rattle.sheet_model.specs.declared.value.Value.TheVariants.{Empty, Error, Logical, Number, Text}
