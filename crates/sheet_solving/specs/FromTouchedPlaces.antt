-- What the crates above name of touched_places, handed on.
pub use Rattle.sheet_linear_model.specs.FromTouchedPlaces.{DifferAt}
