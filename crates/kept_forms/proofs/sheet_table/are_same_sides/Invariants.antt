use Rattle.std.proofs.Common.{◌≡◌, ◌↔◌, drop}
use Rattle.kept_forms.proofs.sheet_table.are_same_sides.Given as goal

-- the lists are equal where their rests are
abbrev pub invariant-loop-place : goal.invariant-loop-place
invariant-loop-place l = (l.one ≡ l.other) ↔ (drop l.place l.one ≡ drop l.place l.other)
