-- What the crates above name of recalculation, handed on.
pub use Rattle.recalculation.proofs.Values.{val_overridden}
