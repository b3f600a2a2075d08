-- What the crates above name of extract, handed on.
pub use Rattle.needed_forms.specs.FromExtract.{Table, form_at, form_said, no_forms}
