-- What the crates above name of form_extraction, handed on.
pub use Rattle.form_extraction.proofs.Agreeing.{form_is}
pub use Rattle.form_extraction.proofs.Cells.{looked_is_referred}
