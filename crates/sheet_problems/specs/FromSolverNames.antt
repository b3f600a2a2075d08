-- What the crates above name of solver_names, handed on.
pub use Rattle.solver_names.specs.Answers.{groups_of, row_of, statement_of}
pub use Rattle.solver_names.specs.Sides.{sides_in}
pub use Rattle.solver_names.specs.Statement.{RowOf, Statement}
