use Rattle.std.proofs.Common.{◌+◌, ◌-◌, ◌≤◌, length}
use Rattle.cell_refs.specs.declared.limits.TheConstants.{TEXTS}
use Rattle.column_strips.specs.Affected.{AreDone, AreFormulas, IsSpreading, refers_in}
use Rattle.column_strips.specs.Marks.{AreMarks, HasSpace}
use Rattle.column_strips.proofs.table.ReferenceTable.spread.Given as goal

abbrev pub invariant-loop-next : goal.invariant-loop-next
invariant-loop-next l = record {
  marks : AreMarks l.cells l.seen;
  space : HasSpace l.rows l.done;
  formulas : AreFormulas l.self l.cells.items;
  spreading : IsSpreading (refers_in l.self) l.fn.from l.cells.items l.next;
  done : AreDone (refers_in l.self) l.cells.items l.done.items;
  next : l.next ≤ length l.cells.items;
}

abbrev pub decreases-loop-next : goal.decreases-loop-next
decreases-loop-next l = TEXTS + 1 - l.next
