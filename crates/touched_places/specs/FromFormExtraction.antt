-- What the crates above name of form_extraction, handed on.
pub use Rattle.form_extraction.specs.Places.{Decisions}
pub use Rattle.form_extraction.specs.declared.forms.CellForm.{CellForm}
