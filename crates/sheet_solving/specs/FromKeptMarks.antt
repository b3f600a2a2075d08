-- What the crates above name of kept_marks, handed on.
pub use Rattle.sheet_linear_model.specs.FromKeptMarks.{marks, marks_all}
