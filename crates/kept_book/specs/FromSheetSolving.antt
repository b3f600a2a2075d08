-- What the crates above name of sheet_solving, handed on.
pub use Rattle.sheet_solving.specs.Searches.{EndsWith, GoesFurther, HasOpenLeaf, Opened, Searched, Task, begun, led_to, task_from, total, whole_task}
pub use Rattle.sheet_solving.specs.Solving.{HasBudgetLeft, HasNoRoom, IsSolved, Slices, Solves, StandsAt, by_cells}
