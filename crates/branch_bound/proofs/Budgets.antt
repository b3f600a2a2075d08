-- A budget that is enough is never spent.
use Rattle.std.proofs.Common.{◌≡◌, ◌<◌, ℕ, subst, arith}
use Rattle.node_pick.specs.Rules.{free}
use Rattle.linear_models.specs.Model.{Model, IsValid}
use Rattle.searches.specs.Trails.{State}
use Rattle.search_bounds.specs.Choices.{IsBounded}
use Rattle.search_bounds.specs.Enough.{enough_for}
use Rattle.search_bounds.proofs.Units.{stated_units_are_enough}
use Rattle.branch_bound.specs.Searches.{Held, HasTrail}
use Rattle.branch_bound.specs.Ends.{HasBudgetLeft}
use Rattle.branch_bound.specs.Told.{IsStopOf}
use Rattle.branch_bound.specs.declared.progress.SearchStop.{SearchStop}
use Rattle.branch_bound.specs.declared.progress.SearchStop.TheVariants as stop

-- a trail of a model that stays as it was has fewer units than are enough for it
pub few_units : (first lent m : Model) (n : ℕ) (s : State) → IsValid lent → lent ≡ first → m ≡ first → HasTrail m n s → IsBounded first → n < enough_for first
few_units first lent m n s v l e h b =
    let t : HasTrail first n s = subst (λ (m : Model). HasTrail m n s) e h in
    let few = stated_units_are_enough first free t.units s (subst IsValid l v) b t.trail in
    let c = t.count in
    omega (arith, few, c)

-- why no unit is made is never that the budget is spent
pub stop_left : (s : Held) (t : SearchStop) → IsStopOf s t → HasBudgetLeft t
stop_left s (stop.WidePivot path basis leaves enters) h = tt
stop_left s (stop.Budget n) h = h
stop_left s stop.Memory h = tt
