-- What the crates above name of write_back, handed on.
pub use Rattle.write_back.specs.Writing.{number_text, with_numbers, without_room}
