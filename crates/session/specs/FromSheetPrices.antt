-- What the crates above name of sheet_prices, handed on.
pub use Rattle.sheet_prices.specs.Answers.{ComesTo, HasAim, IsFirstWhole, Prices, Tells}
pub use Rattle.sheet_prices.specs.Prices.{lines_of}
