-- What the crates above name of extract, handed on.
pub use Rattle.needed_cells.specs.FromExtract.{HasForms, IsTreeOf, Table, form_at, form_count, form_said, is_in_circle, no_forms, place_form}
pub use Rattle.needed_cells.specs.FromExtract.{with_form, without}
