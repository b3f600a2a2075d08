-- What the crates above name of extract_incr, handed on.
pub use Rattle.kept_forms.specs.FromExtractIncr.{AllAreKept, Kept}
