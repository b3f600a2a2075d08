-- What the crates above name of form_needs, handed on.
pub use Rattle.form_needs.specs.FirstRefusal.{IsRefusal}
pub use Rattle.form_needs.specs.Needed.{Asked}
