use Rattle.std.proofs.Common.{subst}
use Rattle.std.proofs.lemmas.List.{take_all}
use Rattle.std.specs.Prelude.{All}
use Rattle.needed_cells.specs.Finding.{AreAdded, IsStarted, asked}
use Rattle.cell_refs.specs.declared.place.Place.TheVariants as place
use Rattle.needed_cells.proofs.Spreading.{one_started}
use Rattle.needed_cells.proofs.needed.start.Goals as goal

pub loop-root-preserved : goal.loop-root-preserved
loop-root-preserved c =
    one_started (asked c.args.sheet.now.book.now c.args.sheet.now.sides.now c.args.sheet.now.adj.now c.args.sheet.now.roots.now) c.loop-root.found c.add_all.new.found
    c.loop-root.pending.items c.add_all.new.pending.items c.loop-root.root-index (place.Cell (record { sheet = record { 0 = 0 }; row = 0; col = 0 })) c.loop-root-test.true
    c.loop-root.invariant.spreads c.loop-root.invariant.started c.in_ok-cells.cells.items c.in_ok-cells.ensures
    (subst (λ xs. AreAdded xs c.loop-root.found c.loop-root.pending.items c.add_all.new.found c.add_all.new.pending.items) c.deref.ensures.value c.in_ok-add_all.ensures)

pub returns-clause-started : goal.returns-clause-started
returns-clause-started c =
    subst (All (IsStarted (asked c.args.sheet.now.book.now c.args.sheet.now.sides.now c.args.sheet.now.adj.now c.args.sheet.now.roots.now) c.loop-root.found))
    (take_all c.loop-root.root-index c.args.sheet.now.roots.now c.loop-root-test.false) c.loop-root.invariant.started
