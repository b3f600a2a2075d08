-- The cells that an edit of a cell affects.
use Rattle.std.specs.Prelude.{Bool}
use Rattle.cell_refs.specs.declared.cell.Cell.{Cell}
use Rattle.recalculation.specs.Entries.{Book, entry}
use Rattle.recalculation.specs.Walks.{refers}
use Rattle.column_strips.specs.Affected as lists

-- whether what a cell of a workbook says is a formula that refers to another
abbrev pub refers_at : Book → Cell → Cell → Bool
refers_at book c d = refers (entry book c) d

-- a set has a cell and the cells of a workbook that reach it by references, and no others
abbrev pub AreAffected : Book → Cell → (Cell → Bool) → Type 0
AreAffected book from has = lists.AreAffected (refers_at book) from has
