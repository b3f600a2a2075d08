-- What the crates above name of extract, handed on.
pub use Rattle.kept_forms.specs.FromExtract.{form_at}
