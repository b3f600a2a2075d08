-- What the crates above name of kept_forms, handed on.
pub use Rattle.kept_forms.specs.Tables.{SheetKept, all_forms, forms_in, is_searching, parts_of}
