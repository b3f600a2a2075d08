-- What the crates above name of needed_cells, handed on.
pub use Rattle.needed_forms.specs.FromNeededCells.{IsRoot, IsSettled}
