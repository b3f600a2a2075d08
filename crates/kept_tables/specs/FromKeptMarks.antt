-- What the crates above name of kept_marks, handed on.
pub use Rattle.kept_marks.specs.Marks.{AreForms}
