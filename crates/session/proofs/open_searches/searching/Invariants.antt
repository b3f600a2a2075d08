use Rattle.std.proofs.Common.{◌≡◌, map, take}
use Rattle.std.specs.Prelude.{is_some}
use Rattle.session.proofs.open_searches.searching.Given as goal

-- for each search so far whether it is open
abbrev pub invariant-loop-search : goal.invariant-loop-search
invariant-loop-search l = l.found.items ≡ map is_some (take l.search-index l.searches)
