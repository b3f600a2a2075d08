-- The references of formulas by columns: strips of rows.
use Rattle.std.specs.Prelude.{◌≡◌, ℕ, Bool, false, ◌&&◌, ◌==◌, nat_le, List, Option, None, Some}
use Rattle.std.specs.FinMap.{get}
use Rattle.std.specs.List.{list_any}
use Rattle.std.specs.Ordering.{eq_by_cmp, nat_cmp, ordering_then}
use Rattle.std.specs.declared.cmp.Ordering.{Ordering}
use Rattle.cell_refs.specs.Areas.{Area, bottom, right}
use Rattle.cell_refs.specs.Cells.{cell_cmp}
use Rattle.column_strips.specs.declared.strip.Strip.{Strip}
use Rattle.column_strips.specs.Formulas.{IsRising, References}

-- by cell, then by first row, then by last row
abbrev pub strip_cmp : Strip → Strip → Ordering
strip_cmp s t = ordering_then (cell_cmp s.cell t.cell) (ordering_then (nat_cmp s.top t.top) (nat_cmp s.bottom t.bottom))

-- whether an area covers a column of a sheet
abbrev pub covers : Area → ℕ → ℕ → Bool
covers area sheet column = (area.sheet.0 == sheet) && (nat_le area.left column && nat_le column (right area))

-- and has the first and last row of a strip
abbrev pub is_part : Area → ℕ → ℕ → Strip → Bool
is_part area sheet column s = covers area sheet column && ((s.top == area.top) && (s.bottom == bottom area))

-- the same of one of some areas, where there are any
abbrev pub is_part_of_any : Option (List Area) → ℕ → ℕ → Strip → Bool
is_part_of_any None sheet column s = false
is_part_of_any (Some areas) sheet column s = list_any (λ area. is_part area sheet column s) areas

-- whether a strip is in a list
abbrev pub has_strip : List Strip → Strip → Bool
has_strip strips s = list_any (eq_by_cmp strip_cmp s) strips

-- the strips of a column: those that some area which is kept for their cell makes there, each once, in their order
pub record AreStrips (references : References) (sheet column : ℕ) (strips : List Strip) : Type 0 where
  pub exact : (s : Strip) → has_strip strips s ≡ is_part_of_any (get references s.cell) sheet column s
  pub rising : IsRising strip_cmp strips
