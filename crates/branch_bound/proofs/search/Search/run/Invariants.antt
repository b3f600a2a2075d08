use Rattle.std.proofs.Common.{◌-◌, ◌≡◌, ◌≤◌, ◌⊎◌}
use Rattle.node_pick.specs.Messages.{Hears}
use Rattle.branch_bound.proofs.Running.{LedBy}
use Rattle.branch_bound.proofs.search.Search.run.Given as goal

abbrev pub invariant-loop-spent : goal.invariant-loop-spent
invariant-loop-spent g l = record {
  trail : LedBy l.initial.self.model ((goal.Picker-dyn g (l.initial.pick.vtable, l.initial.pick.value)).rule l.initial.pick.value) l.initial.self.state l.self.state
      (Hears ((goal.Picker-dyn g (l.initial.pick.vtable, l.initial.pick.value)).heard l.initial.pick.value) ((goal.Picker-dyn g (l.pick.vtable, l.pick.value)).heard l.pick.value))
      l.initial.self.units l.self.units l.spent;
  in_budget : (l.spent ≡ 0) ⊎ (l.self.units ≤ l.initial.self.budget);
  spent : l.spent ≤ l.units;
  model : l.self.model ≡ l.initial.self.model;
  budget : l.self.budget ≡ l.initial.self.budget;
  answered : l.self.answered ≡ l.initial.self.answered;
  rule : (goal.Picker-dyn g (l.pick.vtable, l.pick.value)).rule l.pick.value ≡ (goal.Picker-dyn g (l.initial.pick.vtable, l.initial.pick.value)).rule l.initial.pick.value;
}

abbrev pub decreases-loop-spent : goal.decreases-loop-spent
decreases-loop-spent g l = l.units - l.spent
