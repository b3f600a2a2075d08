-- A `Search` as a search.
use Rattle.std.specs.Prelude.{◌≡◌, ◌≤◌, ◌+◌, ◌*◌, ℕ, Bool, true, false, length, Option, Some, None, ⊤}
use Rattle.branch_bound.specs.Searches.{Held, HasTrail}
use Rattle.branch_bound.specs.States.{IsOrderly, IsReadyIf, state_of}
use Rattle.branch_bound.specs.declared.work.Work.{Work}
use Rattle.branch_bound.specs.declared.search.Room.{Room}
use Rattle.branch_bound.specs.declared.search.Search.TheInside.{Inside}

-- the room for the answer is gone with it
abbrev pub is_given : Option Room → Bool
is_given None = true
is_given (Some r) = false

abbrev pub held_of : Inside → Held
held_of s = record { model = s.model; budget = s.budget; units = s.units; state = state_of s.frontier s.work; answered = is_given s.room }

-- no more pivots than units
abbrev pub IsCounted : ℕ → Option Work → Type 0
IsCounted units None = ⊤
IsCounted units (Some w) = w.pivots ≤ units

-- a number for each decision
abbrev pub IsRoomy : ℕ → Option Room → Type 0
IsRoomy n None = ⊤
IsRoomy n (Some r) = (length r.point.items ≡ n) × (length r.direction.items ≡ n)

pub record IsHeld (s : Inside) : Type 0 where
  pub trail : HasTrail s.model s.units (state_of s.frontier s.work)
  pub orderly : IsOrderly s.frontier
  pub ready : IsReadyIf s.model s.frontier s.work
  pub pivots : IsCounted s.units s.work
  pub room : IsRoomy (length s.model.whole) s.room
  pub budget : s.budget ≤ 1000000
  pub units : s.units ≤ 1000000
  pub nodes : length s.frontier.paths.paths ≤ 2 * s.units + 1
