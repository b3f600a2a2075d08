-- What the crates above name of extract, handed on.
pub use Rattle.extract.specs.Knowing.{form_said}
pub use Rattle.extract.specs.Places.{HasForms, IsTreeOf, is_in_circle, place_form}
pub use Rattle.extract.specs.Tables.{Table, form_at, form_count, no_forms, with_form, without}
