-- What the crates above name of touched_places, handed on.
pub use Rattle.kept_marks.specs.FromTouchedPlaces.{DifferAt}
unfoldable pub use Rattle.kept_marks.specs.FromTouchedPlaces.{touches}
