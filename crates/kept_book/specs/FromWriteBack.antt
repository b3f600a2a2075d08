-- What the crates above name of write_back, handed on.
pub use Rattle.sheet_solving.specs.FromWriteBack.{without_room}
