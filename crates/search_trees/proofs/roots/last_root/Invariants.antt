use Rattle.std.proofs.Common.{◌++◌, map, take}
use Rattle.search_trees.proofs.LastIn.{IsLastIn, number_of_visit, number_of_info}
use Rattle.search_trees.proofs.roots.last_root.Given as goal

abbrev pub invariant-loop-visit : goal.invariant-loop-visit
invariant-loop-visit l = IsLastIn l.frontier.paths.paths (map number_of_visit (take l.visit-index l.opened)) l.last

abbrev pub invariant-loop-info : goal.invariant-loop-info
invariant-loop-info l = IsLastIn l.frontier.paths.paths (map number_of_visit l.frontier.opened.items ++ map number_of_info (take l.info-index l.waiting)) l.last
