-- What the crates above name of sheet_solving, handed on.
pub use Rattle.sheet_solving.specs.Searches.{EndsWith, Searched, Task, whole_task}
pub use Rattle.sheet_solving.specs.Solving.{CellsHoldEachOnce, DecisionHas, Holds, IsNumber, IsReached, MeetsAll, Solves, number_now}
