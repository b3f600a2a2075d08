-- What the crates above name of form_truth, handed on.
pub use Rattle.form_truth.specs.Answered.{IsAnswer}
pub use Rattle.form_truth.specs.Laws.{called_at}
pub use Rattle.form_truth.specs.Picks.{IsPick, IsRecord, first_column, read}
pub use Rattle.form_truth.specs.Products.{FactorsBend, PairBends}
pub use Rattle.form_truth.specs.Rows.{ArgumentVaries}
