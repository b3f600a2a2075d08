-- What the crates above name of kept_marks, handed on.
pub use Rattle.extract_incr.specs.FromKeptMarks.{marks, marks_all}
