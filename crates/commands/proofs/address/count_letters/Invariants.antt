use Rattle.std.proofs.Common.{◌≡◌, ◌<◌, ℕ, true, get_or}
use Rattle.std.specs.Char.{is_ascii_alphabetic}
use Rattle.commands.proofs.address.count_letters.Given as goal

-- all so far are letters
abbrev pub invariant-loop-i : goal.invariant-loop-i
invariant-loop-i l = (k : ℕ) → k < l.i → is_ascii_alphabetic (get_or l.text k 0) ≡ true
