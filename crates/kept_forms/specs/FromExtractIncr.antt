-- What the crates above name of extract_incr, handed on.
pub use Rattle.extract_incr.specs.Keeping.{AllAreKept, Kept, asked_from}
