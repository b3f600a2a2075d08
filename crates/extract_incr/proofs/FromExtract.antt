-- What the crates above name of extract, handed on.
pub use Rattle.needed_forms.proofs.FromExtract.{said_plain}
