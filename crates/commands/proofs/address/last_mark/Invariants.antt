use Rattle.std.proofs.Common.{◌≡◌, ◌<◌, ℕ, true, false, slice_index}
use Rattle.std.specs.Prelude.{IfNone, IfSome}
use Rattle.commands.specs.Addresses.{is_mark}
use Rattle.commands.proofs.address.last_mark.Given as goal

-- the last mark so far
abbrev pub invariant-loop-i : goal.invariant-loop-i
invariant-loop-i l = record {
  within : IfSome l.last (λ i. i < l.i);
  mark : IfSome l.last (λ i. is_mark (slice_index l.text i) ≡ true);
  last : IfSome l.last (λ i. (k : ℕ) → i < k → k < l.i → is_mark (slice_index l.text k) ≡ false);
  none : IfNone l.last ((k : ℕ) → k < l.i → is_mark (slice_index l.text k) ≡ false);
}
