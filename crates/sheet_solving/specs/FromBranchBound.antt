-- What the crates above name of branch_bound, handed on.
pub use Rattle.branch_bound.specs.Ends.{IsWideAt}
