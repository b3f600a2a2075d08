use Rattle.std.proofs.Common.{◌∙◌, sym, ap, subst}
use Rattle.tableau.specs.Entries.{IsSparse, entry_in}
use Rattle.tableau.proofs.Changes.{entries_remove, entries_set, sparse_remove, sparse_set}
use Rattle.tableau.proofs.Searching.{other_than_zero}
use Rattle.tableau.proofs.entries.replace.Goals as goal

pub returns-then-is_zero-clause-sparse : goal.returns-then-is_zero-clause-sparse
returns-then-is_zero-clause-sparse c = λ n s.
    subst (IsSparse n) (sym c.remove.ensures.items) (sparse_remove n c.args.kept.now.items c.args.place c.requires.place s)

pub returns-then-is_zero-clause-entries : goal.returns-then-is_zero-clause-entries
returns-then-is_zero-clause-entries c = λ j.
    ap (λ k. entry_in k j) c.remove.ensures.items
    ∙ entries_remove c.args.kept.now.items c.args.place c.args.col c.args.number c.requires.rising c.requires.place c.requires.column (c.is_zero.ensures.0 c.if-is_zero.true) j

pub returns-else-is_zero-clause-sparse : goal.returns-else-is_zero-clause-sparse
returns-else-is_zero-clause-sparse c = λ n s.
    sparse_set n c.args.kept.now.items c.args.place c.args.col c.args.number c.requires.place c.requires.column
    (other_than_zero c.is_zero.result c.args.number c.if-is_zero.false c.is_zero.ensures.1) s

pub returns-else-is_zero-clause-entries : goal.returns-else-is_zero-clause-entries
returns-else-is_zero-clause-entries c = entries_set c.args.kept.now.items c.args.place c.args.col c.args.number c.requires.rising c.requires.place c.requires.column
