-- An area as it is held.
use Rattle.cell_refs.specs.Areas.{Area}
use Rattle.cell_refs.specs.declared.cell.Area.TheInside.{Inside}

-- its fields
abbrev pub area_of : Inside → Area
area_of a = record { sheet = a.sheet; top = a.top; left = a.left; further_rows = a.further_rows; further_columns = a.further_columns }
