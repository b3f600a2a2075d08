-- What is shown of a cell.
use Rattle.std.specs.Prelude.{◌≡◌}
use Rattle.cell_refs.specs.declared.cell.Cell.{Cell}
use Rattle.recalculation.specs.Entries.{Book, no_overriding}
use Rattle.recalculation.specs.Recalculation.{val}
use Rattle.recalculation.specs.Narrow.{IsLeastWide, NoneIsWide}
use Rattle.recalc.specs.declared.shown.Shown.{Shown}
use Rattle.recalc.specs.declared.shown.Shown.TheVariants.{Is, Wide}

-- the value of a cell, where nothing at which it looks, itself or by others, is wide; and else the least wide cell among those
abbrev pub IsShown : Book → Cell → Shown → Type 0
IsShown book a (Is v) = (val book no_overriding a ≡ v) × NoneIsWide book no_overriding a
IsShown book a (Wide c) = IsLeastWide book no_overriding a c
