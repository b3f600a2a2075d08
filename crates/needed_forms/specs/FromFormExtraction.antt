-- What the crates above name of form_extraction, handed on.
pub use Rattle.form_extraction.specs.Looked.{LooksFrom, forms_of, refers_to_circle, side_form}
pub use Rattle.form_extraction.specs.Places.{decision_or, entry_form, formula_form, numbered_in}
unfoldable pub use Rattle.form_extraction.specs.Places.{form_of}
pub use Rattle.form_extraction.specs.declared.forms.CellForm.{CellForm}
pub use Rattle.form_extraction.specs.declared.forms.CellForm.TheVariants.{Circular}
