use Rattle.std.proofs.Common.{◌≡◌, ◌∙◌, ◌+◌, ◌∷◌, ap, drop, map, subst, sym}
use Rattle.std.proofs.lemmas.List.{drop_all, drop_more}
use Rattle.std.specs.Prelude.{All}
use Rattle.workbook.specs.declared.text_cell.TextCell.{TextCell}
use Rattle.workbook.specs.TextCells.{AreTextCells, IsRead, listed_cells}
use Rattle.dep_table.specs.Formulas.{pair_of}
use Rattle.dep_table.proofs.OpenLaws.{HasCome, all_come, at_first, sorted_come, with_cell}
use Rattle.dep_table.proofs.open.formulas_of.Goals as goal

pub loop-found-init : goal.loop-found-init
loop-found-init c =
    let listed = subst (λ xs. AreTextCells c.args.book.now.contents (listed_cells xs)) (sym c.deref-found-items.ensures.value) c.in_ok-cells.ensures.listed in
    subst (λ es. HasCome c.args.book.now c.deref-found-items.result.now (map pair_of es)) (sym c.new-formulas.ensures.items)
    (at_first c.args.book.now c.deref-found-items.result.now listed)

pub loop-found-preserved : goal.loop-found-preserved
loop-found-preserved c =
    let e : TextCell = c.found-item.result in
    let left = drop (c.loop-found.found-index + 1) c.deref-found-items.result.now in
    let read : All (IsRead c.args.book.now) c.deref-found-items.result.now = subst (All (IsRead c.args.book.now)) (sym c.deref-found-items.ensures.value) c.in_ok-cells.ensures.read in
    let split : drop c.loop-found.found-index c.deref-found-items.result.now ≡ e ∷ left =
    drop_more c.deref-found-items.result.now c.loop-found.found-index e c.loop-found-test.true ∙ ap (λ x. x ∷ left) (sym c.found-item.is) in
    with_cell c.args.book.now e left (map pair_of c.loop-found.formulas.items) (map pair_of c.add_formula.new.formulas.items)
    (subst (IsRead c.args.book.now) (sym c.found-item.is) (read c.loop-found.found-index e c.loop-found-test.true))
    (subst (λ xs. HasCome c.args.book.now xs (map pair_of c.loop-found.formulas.items)) split c.loop-found.invariant) c.in_ok-add_formula.ensures

pub returns-clause-sorted : goal.returns-clause-sorted
returns-clause-sorted c = sorted_come c.args.book.now (drop c.loop-found.found-index c.deref-found-items.result.now) c.loop-found.formulas.items c.loop-found.invariant

pub returns-clause-all : goal.returns-clause-all
returns-clause-all c =
    all_come c.args.book.now c.loop-found.formulas.items
    (subst (λ xs. HasCome c.args.book.now xs (map pair_of c.loop-found.formulas.items))
    (drop_all c.loop-found.found-index c.deref-found-items.result.now c.loop-found-test.false) c.loop-found.invariant)
