-- What the crates above name of form_extraction, handed on.
pub use Rattle.form_extraction.specs.Places.{numbered_in}
pub use Rattle.form_extraction.specs.declared.forms.CellForm.{CellForm}
