use Rattle.dictionaries.proofs.PhaseOne.{extra_has_place}
use Rattle.dictionaries.proofs.Reaching.{reached_on_the_way}
use Rattle.simplex.proofs.choose.next_of.Goals as goal

pub unreachable-requires : goal.unreachable-requires
unreachable-requires c =
    let w = c.requires in
    extra_has_place w.0 c.args.dict.now (reached_on_the_way w.0 c.args.dict.now w.1 w.2).dictionary c.in_default.ensures c.in-None.ensures
