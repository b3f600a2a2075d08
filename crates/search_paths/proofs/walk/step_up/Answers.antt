use Rattle.std.proofs.Common.{arith, sym, ◌∙◌}
use Rattle.search_paths.proofs.Growing.{a_root}
use Rattle.search_paths.proofs.Walking.{read_at, smaller, up_part, up_root, within}
use Rattle.search_paths.proofs.walk.step_up.Goals as goal

pub part_of-requires : goal.part_of-requires
part_of-requires c =
    let w = c.args.walk.now in
    let os = c.args.origins.now in
    (c.requires.placed w.at _ (read_at os w.at a_root (within os w c.requires.at c.requires.later))).narrow

pub returns-in-Some-clause-at : goal.returns-in-Some-clause-at
returns-in-Some-clause-at c =
    let w = c.args.walk.now in
    let os = c.args.origins.now in
    up_part os w c.undo.new.walk c.in-Some.part _ c.requires.placed c.requires.at c.requires.later (read_at os w.at a_root (within os w c.requires.at c.requires.later)) (sym c.part_of.ensures ∙ c.in-Some.is) c.undo.ensures.at
    c.undo.ensures.led

pub returns-in-Some-clause-before : goal.returns-in-Some-clause-before
returns-in-Some-clause-before c =
    let w = c.args.walk.now in
    let os = c.args.origins.now in
    let s = smaller w.at _ (c.requires.placed w.at _ (read_at os w.at a_root (within os w c.requires.at c.requires.later))) c.requires.later in
    let e = c.undo.ensures.at in
    omega (arith, s, e)

pub returns-in_default-clause-at : goal.returns-in_default-clause-at
returns-in_default-clause-at c =
    let w = c.args.walk.now in
    let os = c.args.origins.now in
    up_root os w _ c.requires.placed c.requires.at c.requires.later (read_at os w.at a_root (within os w c.requires.at c.requires.later)) (sym c.part_of.ensures ∙ c.in_default.is)

pub returns-in_default-clause-before : goal.returns-in_default-clause-before
returns-in_default-clause-before c =
    let w = c.args.walk.now in
    let os = c.args.origins.now in
    smaller w.at _ (c.requires.placed w.at _ (read_at os w.at a_root (within os w c.requires.at c.requires.later))) c.requires.later
