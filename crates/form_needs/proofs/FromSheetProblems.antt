-- What the crates above name of sheet_problems, handed on.
pub use Rattle.sheet_problems.proofs.Fitting.{forms_fit}
pub use Rattle.sheet_problems.proofs.Modelled.{linear_model_is_the_sheet}
pub use Rattle.sheet_problems.proofs.Numbers.{decision_is_its_number}
pub use Rattle.sheet_problems.proofs.Placed.{place_worth}
