use Rattle.std.proofs.Common.{◌≡◌, ◌≤◌, ◌+◌, ◌++◌, sym, subst, length, length-append, arith}
use Rattle.tableau.specs.Entries.{IsSparse}
use Rattle.tableau.proofs.Kept.{few_kept}
use Rattle.tableau.proofs.Runs.{joined_sparse}
use Rattle.tableau.proofs.entries.append_run.Goals as goal

pub unreachable-requires : goal.unreachable-requires
unreachable-requires c =
    let kept = c.args.kept.now.items in
    let run = c.args.run.now in
    let few : length (kept ++ run) ≤ c.args.columns = few_kept c.args.columns (kept ++ run) (joined_sparse c.args.columns kept run c.requires.sparse c.requires.run c.requires.behind) in
    omega (arith, few, length-append kept run, c.args.kept.now.ok.0, c.in-Err.ensures.full, c.requires.room)

pub returns-clause-sparse : goal.returns-clause-sparse
returns-clause-sparse c =
    subst (IsSparse c.args.columns) (sym c.in-Ok.ensures.items) (joined_sparse c.args.columns c.args.kept.now.items c.args.run.now c.requires.sparse c.requires.run c.requires.behind)
