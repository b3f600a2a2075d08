use Rattle.std.proofs.Common.{◌∙◌, ap, false, get_or, sym}
use Rattle.dep_table.proofs.Tables.{one_place}
use Rattle.dep_table.proofs.deps.wanted_from.Goals as goal

pub returns-clause-from : goal.returns-clause-from
returns-clause-from c i f at same =
    let there = c.in-Some.ensures.some in
    ap (λ k. get_or c.in_ok-wanted.wanted.items k false)
    (one_place c.args.formulas.now c.requires.sorted i c.in-Some.place f there.0 at there.1 (same ∙ sym there.2)) ∙ c.in_ok-wanted.ensures.root
