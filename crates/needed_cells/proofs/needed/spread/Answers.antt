use Rattle.std.specs.FinMap.{keys}
use Rattle.std.proofs.Common.{◌+◌, ◌<◌, length, subst, sym}
use Rattle.needed_cells.specs.Finding.{AreAdded, IsSpreading, asked, not_found}
use Rattle.needed_cells.proofs.Spreading.{fewer_left, spread_on}
use Rattle.needed_cells.proofs.needed.spread.Goals as goal

pub loop-cell-smaller : goal.loop-cell-smaller
loop-cell-smaller c =
    let q = asked c.args.sheet.now.book.now c.args.sheet.now.sides.now c.args.sheet.now.adj.now c.args.sheet.now.roots.now in
    let added = subst (λ xs. AreAdded xs c.loop-cell.found c.pop.new.self.items c.add_all.new.found c.add_all.new.pending.items) c.deref.ensures.value c.in_ok-add_all.ensures in
    subst (λ xs. not_found (keys c.args.sheet.now.book.now.contents) c.add_all.new.found + length c.add_all.new.pending.items < not_found (keys c.args.sheet.now.book.now.contents) c.loop-cell.found + length xs)
    (sym c.in-Some.ensures.items)
    (fewer_left q c.loop-cell.found c.add_all.new.found c.pop.new.self.items c.add_all.new.pending.items c.in-Some.cell c.in_ok-looks.looks.items c.in_ok-looks.ensures added)

pub loop-cell-preserved : goal.loop-cell-preserved
loop-cell-preserved c =
    let q = asked c.args.sheet.now.book.now c.args.sheet.now.sides.now c.args.sheet.now.adj.now c.args.sheet.now.roots.now in
    let added = subst (λ xs. AreAdded xs c.loop-cell.found c.pop.new.self.items c.add_all.new.found c.add_all.new.pending.items) c.deref.ensures.value c.in_ok-add_all.ensures in
    record {
      spreads = spread_on q c.loop-cell.found c.add_all.new.found c.pop.new.self.items c.add_all.new.pending.items c.in-Some.cell c.in_ok-looks.looks.items c.in_ok-looks.ensures added
          (subst (λ xs. IsSpreading q c.loop-cell.found xs) c.in-Some.ensures.items c.loop-cell.invariant.spreads);
      kept = λ x h. added.kept x (c.loop-cell.invariant.kept x h);
    }
