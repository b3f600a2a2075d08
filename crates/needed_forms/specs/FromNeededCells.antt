-- What the crates above name of needed_cells, handed on.
pub use Rattle.needed_cells.specs.Settled.{AreForms, HasEntry, IsRoot, IsSettled}
