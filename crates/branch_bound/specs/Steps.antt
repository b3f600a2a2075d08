-- Pivots of the node that is worked on.
use Rattle.std.specs.Prelude.{◌≡◌, ◌+◌, ℕ}
use Rattle.dictionaries.specs.Dictionary.{pivoted}
use Rattle.dictionaries.specs.Narrow.{IsNarrowPivot}
use Rattle.dictionaries.specs.Bland.{NextPivot}
use Rattle.branch_bound.specs.declared.work.Work.{Work}

-- the next pivot has been made
pub record IsPivoted (before after : Work) : Type 0 where
  pub row : ℕ
  pub column : ℕ
  pub next : NextPivot before.dict row column
  pub narrow : IsNarrowPivot before.dict row column
  pub same : after ≡ record before { pivots = before.pivots + 1; dict = pivoted before.dict row column }
