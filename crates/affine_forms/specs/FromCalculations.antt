-- What the crates above name of calculations, handed on.
pub use Rattle.calculations.specs.Calculation.{Calculation, after, done, exact, followed_by, narrow, sum, turned_into}
