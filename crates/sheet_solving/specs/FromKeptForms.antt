-- What the crates above name of kept_forms, handed on.
pub use Rattle.sheet_linear_model.specs.FromKeptForms.{SheetKept, all_forms, is_searching}
