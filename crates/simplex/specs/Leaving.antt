-- The choice of the row of the next pivot as far as a walk over the rows has come.
use Rattle.std.specs.Prelude.{◌<◌, ℕ}
use Rattle.dictionaries.specs.Dictionary.{Dictionary}
use Rattle.dictionaries.specs.Bland.{IsCandidate, IsNarrowRatio}
use Rattle.simplex.specs.Choices.{BlockedOf, LeavesOf}
use Rattle.simplex.specs.declared.leave.Sought.{Sought}
use Rattle.simplex.specs.declared.leave.Sought.TheVariants.{Free, Leaves, Blocked}

-- none of the first n rows is a candidate; or all their ratios are narrow, and one leaves; or one has a ratio that isn't
abbrev pub IsSought : Dictionary → ℕ → ℕ → Sought → Type 0
IsSought d c n Free = (k : ℕ) → k < n → IsCandidate d c k → ⊥
IsSought d c n (Leaves r ratio) = ((k : ℕ) → k < n → IsCandidate d c k → IsNarrowRatio d c k) × LeavesOf d c n r ratio
IsSought d c n (Blocked r) = BlockedOf d c n r
