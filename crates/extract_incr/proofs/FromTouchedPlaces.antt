-- What the crates above name of touched_places, handed on.
pub use Rattle.kept_marks.proofs.FromTouchedPlaces.{apart, texts_differ_at_one}
