use Rattle.std.proofs.Common.{◌≡◌, drop}
use Rattle.dep_table.specs.References.{AreReferencesOf}
use Rattle.sheet_solving.specs.FromKeptForms.{all_forms}
use Rattle.sheet_solving.specs.FromKeptTables.{all_marked}
use Rattle.recalculation.specs.Entries.{Book}
use Rattle.kept_book.proofs.marks.mark_all.Given as goal

-- the cells that are left to mark lead to where all lead
abbrev pub invariant-loop-cell : goal.invariant-loop-cell
invariant-loop-cell l =
    (book : Book) → AreReferencesOf l.deps book → all_marked book (drop l.cell-index l.cells) (all_forms l.tables) ≡ all_marked book l.cells (all_forms l.fn.tables)
