-- What the crates above name of needed_cells, handed on.
pub use Rattle.extract_incr.specs.FromNeededCells.{IsRoot, IsSettled}
