-- What the crates above name of kept_tables, handed on.
pub use Rattle.kept_forms.proofs.FromKeptTables.{edits_leave_right}
