use Rattle.std.proofs.Common.{◌≡◌, None, replicate}
use Rattle.session.proofs.open_searches.no_searches.Given as goal

-- so many places so far, each without a search
abbrev pub invariant-loop : goal.invariant-loop
invariant-loop l = l.searches.items ≡ replicate l.counter None
