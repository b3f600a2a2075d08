-- What the crates above name of extract, handed on.
pub use Rattle.extract.proofs.Saying.{said_plain}
