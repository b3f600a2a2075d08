-- What the crates above name of touched_places, handed on.
pub use Rattle.kept_forms.specs.FromTouchedPlaces.{DifferAt}
