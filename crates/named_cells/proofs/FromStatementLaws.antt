-- What the crates above name of statement_laws, handed on.
pub use Rattle.statement_laws.proofs.ReadNames.{AreChosen}
pub use Rattle.statement_laws.proofs.ToldCells.{faults_are_listed}
pub use Rattle.statement_laws.proofs.Wholes.{statements_are_whole}
