use Rattle.std.proofs.Common.{◌≡◌, ◌+◌, ◌-◌, ◌<◌, ◌≤◌, ℕ, true, length, slice_get}
use Rattle.std.specs.Prelude.{Some, vec_capacity}
use Rattle.column_strips.proofs.gather.flag.Given as goal

abbrev pub invariant-place : goal.invariant-place
invariant-place l = record {
  capacity : vec_capacity l.fn.done ≤ vec_capacity l.done;
  few : (n : ℕ) → length l.fn.done.items ≤ n → l.place < n → length l.done.items ≤ n;
  flagged : (p : ℕ) → slice_get l.done.items p ≡ Some true → slice_get l.fn.done.items p ≡ Some true;
}

abbrev pub decreases-place : goal.decreases-place
decreases-place l = l.place + 1 - length l.done.items
