use Rattle.std.proofs.Common.{◌≡◌, ◌≤◌, ◌+◌, ◌∙◌, sym, ap, subst, length, arith}
use Rattle.std.specs.List.{insert}
use Rattle.std.proofs.lemmas.List.Edits.{length-insert}
use Rattle.tableau.specs.Entries.{IsSparse, entry_in}
use Rattle.tableau.proofs.Kept.{few_kept}
use Rattle.tableau.proofs.Changes.{entries_same, entries_insert, sparse_insert}
use Rattle.tableau.proofs.Searching.{other_than_zero}
use Rattle.tableau.proofs.entries.add.Goals as goal

pub returns-then-is_zero-clause-entries : goal.returns-then-is_zero-clause-entries
returns-then-is_zero-clause-entries c = entries_same c.args.kept.now.items c.args.place c.args.col c.args.number c.requires.gap (c.is_zero.ensures.0 c.if-is_zero.true)

pub unreachable-requires : goal.unreachable-requires
unreachable-requires c =
    let z = other_than_zero c.is_zero.result c.args.number c.if-is_zero.false c.is_zero.ensures.1 in
    let made = insert c.args.kept.now.items c.args.place (c.args.col, c.args.number) in
    let size : length made ≡ length c.args.kept.now.items + 1 = length-insert c.args.kept.now.items c.args.place (c.args.col, c.args.number) c.requires.gap.within in
    let few : length made ≤ c.args.columns =
    few_kept c.args.columns made (sparse_insert c.args.columns c.args.kept.now.items c.args.place c.args.col c.args.number c.requires.gap c.requires.column z c.requires.sparse) in
    omega (arith, size, few, c.args.kept.now.ok.0, c.in-Err.ensures.full, c.requires.room)

pub returns-clause-sparse : goal.returns-clause-sparse
returns-clause-sparse c =
    let z = other_than_zero c.is_zero.result c.args.number c.if-is_zero.false c.is_zero.ensures.1 in
    subst (IsSparse c.args.columns) (sym c.in-Ok.ensures.items)
    (sparse_insert c.args.columns c.args.kept.now.items c.args.place c.args.col c.args.number c.requires.gap c.requires.column z c.requires.sparse)

pub returns-clause-entries : goal.returns-clause-entries
returns-clause-entries c = λ j.
    ap (λ k. entry_in k j) c.in-Ok.ensures.items
    ∙ entries_insert c.args.kept.now.items c.args.place c.args.col c.args.number c.requires.sparse.rising c.requires.gap j
