-- What the crates above name of dep_table, handed on.
pub use Rattle.dep_table.specs.References.{AreReferencesOf}
