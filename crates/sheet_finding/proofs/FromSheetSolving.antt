-- What the crates above name of sheet_solving, handed on.
pub use Rattle.sheet_solving.proofs.Ends.{full_listed}
