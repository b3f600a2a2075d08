use Rattle.std.proofs.Common.{◌≡◌, ℕ, ◌<◌, ◌*◌, false, get_or}
use Rattle.sheet_model.specs.declared.value.Value.TheVariants.{Empty}
use Rattle.sheet_funcs.specs.Lookups.{is_equal_to}
use Rattle.sheet_funcs.proofs.search.first_equal.Given as goal

-- no value so far is equal
abbrev pub invariant-loop-place : goal.invariant-loop-place
invariant-loop-place l = (k : ℕ) → k < l.place → is_equal_to l.key (get_or l.items (k * l.step) Empty) ≡ false
