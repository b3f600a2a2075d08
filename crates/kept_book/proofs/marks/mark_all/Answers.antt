use Rattle.std.proofs.Common.{◌≡◌, ◌∙◌, ◌+◌, List, drop, subst, sym}
use Rattle.std.proofs.lemmas.List.{drop_all, drop_more}
use Rattle.cell_refs.specs.declared.cell.Cell.{Cell}
use Rattle.sheet_solving.specs.FromKeptForms.{all_forms}
use Rattle.sheet_solving.specs.FromKeptTables.{all_marked}
use Rattle.kept_book.proofs.MarkLaws.{marks_step, none_marked}
use Rattle.kept_book.proofs.marks.mark_all.Goals as goal

pub loop-cell-preserved : goal.loop-cell-preserved
loop-cell-preserved c book right =
    marks_step book _ (drop (c.loop-cell.cell-index + 1) c.args.cells.now) (all_forms c.loop-cell.tables) (all_forms c.mark.new.self) (all_marked book c.args.cells.now (all_forms c.args.tables.now))
    (subst (λ (cells : List Cell). all_marked book cells (all_forms c.loop-cell.tables) ≡ all_marked book c.args.cells.now (all_forms c.args.tables.now)) (drop_more c.args.cells.now c.loop-cell.cell-index _ c.loop-cell-test.true) (c.loop-cell.invariant book right))
    (c.mark.ensures book right)

pub returns : goal.returns
returns c book right =
    sym (none_marked book (all_forms c.loop-cell.tables))
    ∙ subst (λ (cells : List Cell). all_marked book cells (all_forms c.loop-cell.tables) ≡ all_marked book c.args.cells.now (all_forms c.args.tables.now)) (drop_all c.loop-cell.cell-index c.args.cells.now c.loop-cell-test.false) (c.loop-cell.invariant book right)
