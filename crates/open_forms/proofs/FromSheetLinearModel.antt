-- What the crates above name of sheet_linear_model, handed on.
pub use Rattle.sheet_linear_model.proofs.Opening.{is_statement}
pub use Rattle.sheet_linear_model.proofs.Rooted.{objective_has_number, roots_are_listed, roots_are_roots, rows_have_numbers}
pub use Rattle.sheet_linear_model.proofs.Settled.{kept_for}
