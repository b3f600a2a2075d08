-- What the crates above name of form_extraction, handed on.
pub use Rattle.needed_forms.specs.FromFormExtraction.{CellForm, numbered_in}
