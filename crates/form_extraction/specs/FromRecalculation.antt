-- What the crates above name of recalculation, handed on.
pub use Rattle.recalculation.specs.Entries.{Book, Constant, Entry, Formula, Malformed, Overriding}
pub use Rattle.recalculation.specs.Evaluation.{cell_value, evaluated}
pub use Rattle.recalculation.specs.Recalculation.{entry_value, number_or}
unfoldable pub use Rattle.recalculation.specs.Recalculation.{bounded_val, val}
pub use Rattle.recalculation.specs.Walks.{has_walk, is_formula, refers, unfolded}
