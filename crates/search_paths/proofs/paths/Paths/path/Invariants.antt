use Rattle.std.proofs.Common.{◌≡◌, ◌<◌, ◌++◌, [], length, get_or, reverse}
use Rattle.search_paths.specs.Tables.{grown}
use Rattle.search_paths.proofs.paths.Paths.path.Given as goal

abbrev pub invariant-loop-part : goal.invariant-loop-part
invariant-loop-part l = record {
  within : l.at < length l.self-inside.origins.items;
  path : get_or (grown [] l.self-inside.origins.items) l.number [] ≡ get_or (grown [] l.self-inside.origins.items) l.at [] ++ reverse l.made.items;
}

abbrev pub decreases-loop-part : goal.decreases-loop-part
decreases-loop-part l = l.at
