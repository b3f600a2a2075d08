-- What the crates above name of command_line, handed on.
pub use Rattle.command_line.specs.Words.{asked_of, texts_of}
