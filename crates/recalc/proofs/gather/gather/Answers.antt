use Rattle.std.proofs.Common.{◌≡◌, ◌∙◌, ◌+◌, ◌∷◌, ap, cond, drop, subst, sym}
use Rattle.std.proofs.lemmas.List.{drop_all, drop_more}
use Rattle.std.specs.BTreeMap.{is_at}
use Rattle.std.specs.Prelude.{All}
use Rattle.cell_refs.specs.Cells.{cell_cmp}
use Rattle.workbook.specs.declared.text_cell.TextCell.{TextCell}
use Rattle.workbook.specs.TextCells.{AreTextCells, IsRead, listed_cells}
use Rattle.recalc.specs.Values.{value_at}
use Rattle.recalc.proofs.Gathered.{HasCome, all_come, at_first, with_cell}
use Rattle.recalc.proofs.gather.gather.Goals as goal

pub loop-found-init : goal.loop-found-init
loop-found-init c =
    at_first c.args.book.now c.args.rows.now.entries c.deref-found-items.result.now c.in_ok-values.values
    (subst (λ xs. AreTextCells c.args.book.now.contents (listed_cells xs)) (sym c.deref-found-items.ensures.value) c.in_ok-cells.ensures.listed)
    c.in_ok-values.ensures.table c.in_ok-values.ensures.empty

pub put-requires : goal.put-requires
put-requires c = c.loop-found.invariant.1.table

pub loop-found-preserved : goal.loop-found-preserved
loop-found-preserved c =
    let e : TextCell = c.found-item.result in
    let left = drop (c.loop-found.found-index + 1) c.deref-found-items.result.now in
    let read : All (IsRead c.args.book.now) c.deref-found-items.result.now = subst (All (IsRead c.args.book.now)) (sym c.deref-found-items.ensures.value) c.in_ok-cells.ensures.read in
    let split : drop c.loop-found.found-index c.deref-found-items.result.now ≡ e ∷ left =
    drop_more c.deref-found-items.result.now c.loop-found.found-index e c.loop-found-test.true ∙ ap (λ x. x ∷ left) (sym c.found-item.is) in
    with_cell c.args.book.now c.args.rows.now.entries e left c.loop-found.values c.put.new.self
    (subst (IsRead c.args.book.now) (sym c.found-item.is) (read c.loop-found.found-index e c.loop-found-test.true))
    (subst (λ xs. HasCome c.args.book.now c.args.rows.now.entries xs c.loop-found.values) split c.loop-found.invariant) c.in_ok-put.ensures.table
    (λ q. c.in_ok-put.ensures.put q ∙ ap (λ v. cond (is_at (cell_cmp e.cell) q) v (value_at c.loop-found.values q)) c.in_ok-known.ensures)

pub returns-clause-table : goal.returns-clause-table
returns-clause-table c = c.loop-found.invariant.1.table

pub returns-clause-seen : goal.returns-clause-seen
returns-clause-seen c =
    all_come c.args.book.now c.args.rows.now.entries c.loop-found.values
    (subst (λ xs. HasCome c.args.book.now c.args.rows.now.entries xs c.loop-found.values)
    (drop_all c.loop-found.found-index c.deref-found-items.result.now c.loop-found-test.false) c.loop-found.invariant)
