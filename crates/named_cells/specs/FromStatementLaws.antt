-- What the crates above name of statement_laws, handed on.
pub use Rattle.statement_laws.specs.Laws.{AreDistinct, IsWhole}
