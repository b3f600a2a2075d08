-- What the crates above name of kept_tables, handed on.
pub use Rattle.sheet_linear_model.proofs.FromKeptTables.{edits_leave_right}
