-- What the crates above name of form_extraction, handed on.
pub use Rattle.form_extraction.specs.Looked.{refers_to_circle, side_form}
pub use Rattle.form_extraction.specs.Places.{Decisions, numbered_in}
pub use Rattle.form_extraction.specs.declared.forms.CellForm.{CellForm}
