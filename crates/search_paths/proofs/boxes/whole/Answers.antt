use Rattle.std.specs.Int.{w128}
use Rattle.std.proofs.lemmas.Int.{to_z-of_z}
use Rattle.opt_certificate.proofs.Wholes.{never, over_one}
use Rattle.search_paths.proofs.boxes.whole.Goals as goal

pub unreachable-requires : goal.unreachable-requires
unreachable-requires c = never c.args.n c.requires (rw (to_z-of_z w128 c.args.n c.ranges.n) at c.in-None.ensures)

pub returns : goal.returns
returns c = rw (to_z-of_z w128 c.args.n c.ranges.n, over_one c.args.n) at c.in-Some.ensures.1
