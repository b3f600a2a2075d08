-- What the crates above name of sheet_solving, handed on.
pub use Rattle.kept_book.specs.FromSheetSolving.{EndsWith, HasNoRoom, HasOpenLeaf, IsSolved, Opened, Searched, Solves, StandsAt, Task, begun}
pub use Rattle.kept_book.specs.FromSheetSolving.{by_cells, led_to, task_from, total, whole_task}
