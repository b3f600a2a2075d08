-- What the crates above name of branch_bound, handed on.
pub use Rattle.sheet_solving.specs.FromBranchBound.{IsWideAt}
