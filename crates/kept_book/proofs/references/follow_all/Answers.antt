use Rattle.std.proofs.Common.{◌+◌, List, drop, subst, sym}
use Rattle.std.proofs.lemmas.List.{drop_all, drop_more}
use Rattle.std.proofs.lemmas.List.Elements.{Contains-get_or}
use Rattle.cell_refs.specs.declared.cell.Cell.{Cell}
use Rattle.kept_book.specs.References.{AreKeptBut, HasFormula}
use Rattle.kept_book.proofs.ReferenceLaws.{all_followed, at_err, one_followed}
use Rattle.kept_book.proofs.references.follow_all.Goals as goal

pub loop-cell-preserved : goal.loop-cell-preserved
loop-cell-preserved c =
    let book = c.args.book.now in
    let cells = c.args.cells.now in
    let left = drop (c.loop-cell.cell-index + 1) cells in
    subst (AreKeptBut left book) (sym c.in_ok-follow.ensures.followed)
    (one_followed book _ left c.loop-cell.deps
    (subst (λ (cells : List Cell). AreKeptBut cells book c.loop-cell.deps) (drop_more cells c.loop-cell.cell-index _ c.loop-cell-test.true) c.loop-cell.invariant))

pub returns-in_err-follow-clause-some : goal.returns-in_err-follow-clause-some
returns-in_err-follow-clause-some c =
    at_err c.from_residual.result (HasFormula c.args.cells.now c.args.book.now) (_, Contains-get_or c.args.cells.now c.loop-cell.cell-index _ c.loop-cell-test.true, c.in_err-follow.ensures.some)

pub returns-clause-followed : goal.returns-clause-followed
returns-clause-followed c =
    all_followed c.args.book.now c.loop-cell.deps
    (subst (λ (cells : List Cell). AreKeptBut cells c.args.book.now c.loop-cell.deps) (drop_all c.loop-cell.cell-index c.args.cells.now c.loop-cell-test.false) c.loop-cell.invariant)
