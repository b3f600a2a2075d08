-- What the crates above name of touched_places, handed on.
pub use Rattle.touched_places.proofs.Edited.{apart, texts_differ_at_one}
pub use Rattle.touched_places.proofs.Tested.{touches_what_is_touched}
