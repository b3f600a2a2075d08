-- What the crates above name of extract, handed on.
pub use Rattle.extract_incr.proofs.FromExtract.{said_plain}
