-- What the crates above name of touched_places, handed on.
pub use Rattle.touched_places.specs.Alike.{DifferAt, IsUntouched, form_at}
pub use Rattle.touched_places.specs.Examples.{cell, cells, formulas, said_in}
pub use Rattle.touched_places.specs.Tests.{touches_in}
unfoldable pub use Rattle.touched_places.specs.Tests.{touches}
pub use Rattle.touched_places.specs.Touched.{Expressions, IsTouched, RefersToTouched}
