use Rattle.std.proofs.Common.{◌≡◌, ◌∙◌, ap, sym, Option, None, ℕ}
use Rattle.std.specs.Prelude.{is_some}
use Rattle.needed_forms.specs.FromExtract.{form_at}
use Rattle.needed_forms.specs.FromFormExtraction.{numbered_in}
use Rattle.recalculation.specs.Entries.{entry}
use Rattle.workbook.specs.Kinds.{book_of}
use Rattle.cell_refs.specs.declared.place.Place.TheVariants as place
use Rattle.extract_incr.proofs.Settling.{none_got, none_of, ready_forms, stale_cell, tree_entry}
use Rattle.extract_incr.proofs.settle.settle_cell.Goals as goal

pub extract_stale-requires-clause-stale : goal.extract_stale-requires-clause-stale
extract_stale-requires-clause-stale g c =
    stale_cell (book_of c.args.book.now) c.args.adj.now c.args.sides.now c.args.table.now c.args.cell c.in-Some.tree.now (tree_entry (entry (book_of c.args.book.now) c.args.cell) c.in-Some.tree.now c.in-Some.ensures)
    (none_of (numbered_in c.args.adj.now c.args.cell) (ap (λ (o : Option ℕ). is_some o) (sym c.find.ensures) ∙ sym c.is_some.ensures ∙ c.if-is_some.false))
    (none_got _ c.get.result (form_at c.args.table.now (place.Cell c.args.cell)) c.get.ensures (sym c.is_some-2.ensures ∙ c.if-is_some-2.false))

pub extract_stale-requires-clause-tree : goal.extract_stale-requires-clause-tree
extract_stale-requires-clause-tree g c = tree_entry (entry (book_of c.args.book.now) c.args.cell) c.in-Some.tree.now c.in-Some.ensures

pub extract_stale-requires-clause-forms : goal.extract_stale-requires-clause-forms
extract_stale-requires-clause-forms g c =
    let undecided : numbered_in c.args.adj.now c.args.cell ≡ None = none_of (numbered_in c.args.adj.now c.args.cell) (ap (λ (o : Option ℕ). is_some o) (sym c.find.ensures) ∙ sym c.is_some.ensures ∙ c.if-is_some.false) in
    ready_forms (book_of c.args.book.now) c.args.adj.now c.args.sides.now c.args.table.now c.args.cell c.in-Some.tree.now c.requires.kept
    (tree_entry (entry (book_of c.args.book.now) c.args.cell) c.in-Some.tree.now c.in-Some.ensures) undecided c.requires.free (c.requires.ready undecided)
