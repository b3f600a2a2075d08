-- What the crates above name of touched_places, handed on.
pub use Rattle.touched_places.specs.Alike.{DifferAt}
