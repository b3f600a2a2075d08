-- What a task comes to by a rule that names a node: units that can't be added to are one list, and lead to one state.
use Rattle.std.proofs.Common.{◌≡◌, ◌≢◌, ◌<◌, ◌≤◌, ◌+◌, ◌⊎◌, inl, inr, ℕ, List, [], length, None, ap, arith}
use Rattle.std.specs.Prelude.{Bool, ℤ}
use Rattle.linear_models.specs.Model.{Model, IsValid}
use Rattle.node_pick.specs.Rules.{free}
use Rattle.searches.specs.Trails.{State, SearchUnit, Grows, Trail, IsOver}
use Rattle.searches.proofs.Slices.{slices_agree}
use Rattle.branch_bound.specs.Ends.{IsWideAt}
use Rattle.session.specs.FromSheetSolving.{Searched, Task, total}
use Rattle.session_laws.proofs.Trails.{leads_on, over_is_last, trail_on, wide_is_last}

-- a task of a valid model that goes on from where a trail has led, by a rule that names a node
pub record Follows (m : Model) (task : Task) : Type 0 where
  pub valid : IsValid m
  pub named : task.rule ≢ free
  pub units : List SearchUnit
  pub trail : Trail m free units task.from

more_or_not : (n k : ℕ) → (n < k) ⊎ (k ≤ n)
more_or_not n k = grind arith

module _ (m : Model) (task : Task) (follows : Follows m task) where
  -- no units of the task are more
  pub record IsLast (t : Searched task m) : Type 0 where
    pub most : (u : Searched task m) → length u.units ≤ length t.units

  -- two that are last are one
  pub last_is_one : (t u : Searched task m) → IsLast t → IsLast u → (t.units ≡ u.units) × (t.state ≡ u.state)
  last_is_one t u h k = slices_agree m task.rule follows.units task.from t.units u.units t.state u.state follows.valid follows.named follows.trail t.leads u.leads (one (h.most u) (k.most t))
    where
      one : length u.units ≤ length t.units → length t.units ≤ length u.units → length t.units ≡ length u.units
      one a b = omega (arith, a, b)

  -- ---- last are units after which none can be made
  stuck : (t : Searched task m) → ((x : SearchUnit) (y : State) → Grows m task.rule t.state x y → ⊥) → IsLast t
  stuck t none = record { most = λ u. at_most u (more_or_not (length t.units) (length u.units)) }
    where
      at_most : (u : Searched task m) → (length t.units < length u.units) ⊎ (length u.units ≤ length t.units) → length u.units ≤ length t.units
      at_most u (inl l) =
          let next = leads_on m task.rule follows.valid follows.named follows.units task.from follows.trail t.units u.units t.state u.state t.leads u.leads l in
          absurd (none next.0 next.1 next.2)
      at_most u (inr l) = l

  pub over_last : (t : Searched task m) → t.state.work ≡ None → IsOver m t.state → IsLast t
  over_last t rest over = stuck t (λ x y g. over_is_last m task.rule t.state y x rest over g)

  pub wide_last : (t : Searched task m) (steps : List (ℕ × Bool × ℤ)) (basis : List ℕ) (leaves enters : ℕ) → IsWideAt t.state steps basis leaves enters → IsLast t
  wide_last t steps basis leaves enters w =
      let trail = trail_on m task.rule follows.valid follows.named follows.units task.from follows.trail t.units t.state t.leads in
      stuck t (λ x y g. wide_is_last m task.rule _ t.state y x w.0 w.2.pivot.row w.2.pivot.column follows.valid trail w.1 w.2.pivot.is_next w.2.pivot.is_wide g)

  -- ---- and units after which none may be spent
  -- all that are asked for
  pub asked_last : (t : Searched task m) → length t.units ≡ task.units → IsLast t
  asked_last t e = record { most = λ u. let l : length u.units ≤ task.units = u.asked in omega (arith, e, l) }

  -- the whole budget
  pub spent_last : (t : Searched task m) → task.budget ≤ total t → IsLast t
  spent_last t b = record { most = λ u. few u.units u.within }
    where
      few : (us : List SearchUnit) → (us ≡ []) ⊎ (task.spent + length us ≤ task.budget) → length us ≤ length t.units
      few us (inl e) = let none : length us ≡ 0 = ap length e in omega (arith, none)
      few us (inr l) = omega (arith, b, l)
