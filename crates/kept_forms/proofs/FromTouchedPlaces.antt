-- What the crates above name of touched_places, handed on.
pub use Rattle.extract_incr.proofs.FromTouchedPlaces.{apart, texts_differ_at_one}
