-- What the crates above name of extract_incr, handed on.
pub use Rattle.extract_incr.specs.Keeping.{AllAreKept, HaveOwnNumbers, Kept, count_to_make}
pub use Rattle.extract_incr.specs.FromExtract.{no_forms}
pub use Rattle.extract_incr.specs.FromNeededCells.{IsRoot}
