-- What the crates above name of frac128, handed on.
unfoldable pub use Rattle.frac128.specs.Narrow.{is_narrow, is_narrow_sum}
