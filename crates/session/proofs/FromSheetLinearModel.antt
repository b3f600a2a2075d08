-- What the crates above name of sheet_linear_model, handed on.
pub use Rattle.sheet_linear_model.proofs.Single.{never_both, prepared_is_one}
