-- What the crates above name of kept_tables, handed on.
pub use Rattle.kept_tables.proofs.Places.{edits_leave_right}
