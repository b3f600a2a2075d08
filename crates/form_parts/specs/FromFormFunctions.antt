-- What the crates above name of form_functions, handed on.
pub use Rattle.form_functions.specs.Whole.{is_whole}
