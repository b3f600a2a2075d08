use Rattle.std.proofs.Common.{◌≡◌, ◌↔◌, drop}
use Rattle.search_paths.proofs.boxes.are_same_bounds.Given as goal

abbrev pub invariant-loop-place : goal.invariant-loop-place
invariant-loop-place l = (l.one ≡ l.other) ↔ (drop l.place l.one ≡ drop l.place l.other)
