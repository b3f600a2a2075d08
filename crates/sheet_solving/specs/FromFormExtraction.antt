-- What the crates above name of form_extraction, handed on.
pub use Rattle.sheet_linear_model.specs.FromFormExtraction.{CellForm}
