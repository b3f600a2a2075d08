use Rattle.std.proofs.Common.{◌≡◌, ◌<◌, ◌^◌, ◌-◌, ◌++◌}
use Rattle.made_up_books.specs.MadeUp.{draws}
use Rattle.made_up_books.proofs.draws.draws.Given as goal

abbrev pub invariant-loop : goal.invariant-loop
invariant-loop l = record { small : l.seed < 2 ^ 31; drawn : l.drawn.items ++ draws (l.count - l.counter) l.seed ≡ draws l.count l.initial.seed }
