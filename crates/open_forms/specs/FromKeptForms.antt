-- What the crates above name of kept_forms, handed on.
pub use Rattle.sheet_linear_model.specs.FromKeptForms.{parts_of}
pub use Rattle.sheet_linear_model.specs.FromKeptTables.{Parts}
