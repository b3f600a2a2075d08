-- What the crates above name of touched_places, handed on.
pub use Rattle.extract_incr.specs.FromTouchedPlaces.{DifferAt}
