use Rattle.std.proofs.Common.{sym, ◌∙◌}
use Rattle.search_paths.proofs.Growing.{a_root}
use Rattle.search_paths.proofs.Walking.{read_at, down_part, down_root}
use Rattle.search_paths.proofs.walk.step_down.Goals as goal

pub part_of-requires : goal.part_of-requires
part_of-requires c =
    let os = c.args.origins.now in
    (c.requires.placed c.args.number _ (read_at os c.args.number a_root c.requires.there)).narrow

pub returns-in_default-clause-at : goal.returns-in_default-clause-at
returns-in_default-clause-at c =
    let os = c.args.origins.now in
    let e = read_at os c.args.number a_root c.requires.there in
    down_root os c.args.walk.now c.args.number _ c.requires.placed c.requires.at c.requires.there e (sym c.part_of.ensures ∙ c.in_default.is) (c.requires.next _ e)

pub returns-clause-at : goal.returns-clause-at
returns-clause-at c =
    let os = c.args.origins.now in
    let e = read_at os c.args.number a_root c.requires.there in
    down_part os c.args.walk.now c.make.new.walk c.args.number c.in-Some.part _ c.requires.placed c.requires.at c.requires.there e (sym c.part_of.ensures ∙ c.in-Some.is) (c.requires.next _ e) c.in_ok-make.ensures.led
