-- Runs of a search one after the other.
use Rattle.std.specs.Prelude.{◌≡◌, ℕ, ◌+◌, List, Result, Ok}
use Rattle.node_pick.specs.Rules.{Rule}
use Rattle.node_pick.specs.Messages.{Message}
use Rattle.branch_bound.specs.Searches.{Held, IsContinued}
use Rattle.branch_bound.specs.Ends.{EndsAs, HearsUntil}
use Rattle.branch_bound.specs.declared.progress.Progress.{Progress}
use Rattle.branch_bound.specs.declared.progress.Progress.TheVariants.{More}
use Rattle.branch_bound.specs.declared.progress.SearchStop.{SearchStop}

-- just these messages were heard
abbrev pub AreHeard : List Message → List Message → Type 0
AreHeard these messages = messages ≡ these

-- a run of so many units by a rule leads from the one search to the other and ends so, where the picker had heard just the first messages before and just the last ones after it
pub record IsRun (rule : Rule) (first last : List Message) (units : ℕ) (before after : Held) (end : Result Progress SearchStop) : Type 0 where
  pub trail : IsContinued rule (HearsUntil (AreHeard first) (AreHeard last) after.state end) units before after
  pub ends : EndsAs before.units units after end

-- a run after which more is to be done, and a run after it, are one run of the units of both: so running 1 unit n times is running n units
abbrev pub SlicesAreOneRun : Type 0
SlicesAreOneRun = (rule : Rule) (first next last : List Message) (a b : ℕ) (x y z : Held) (end : Result Progress SearchStop)
    → IsRun rule first next a x y (Ok More) → IsRun rule next last b y z end → IsRun rule first last (a + b) x z end
