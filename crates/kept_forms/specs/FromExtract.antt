-- What the crates above name of extract, handed on.
pub use Rattle.extract_incr.specs.FromExtract.{Table, form_at, form_said}
