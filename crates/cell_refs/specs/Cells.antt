-- The order of cells.
use Rattle.std.specs.Prelude.{refl, ℕ, Bool, ◌&&◌, ◌==◌}
use Rattle.std.specs.Coded.{Coded, code_by, coded×, coded_ℕ}
use Rattle.std.specs.declared.cmp.Ordering.{Ordering}
use Rattle.std.specs.Ordering.{nat_cmp, ordering_then}
use Rattle.cell_refs.specs.declared.cell.Cell.{Cell}

-- by sheet, then by row, then by column
abbrev pub cell_cmp : Cell → Cell → Ordering
cell_cmp a b = ordering_then (nat_cmp a.sheet.0 b.sheet.0) (ordering_then (nat_cmp a.row b.row) (nat_cmp a.col b.col))

-- one cell is the other
abbrev pub is_same_cell : Cell → Cell → Bool
is_same_cell a b = (a.sheet.0 == b.sheet.0) && ((a.row == b.row) && (a.col == b.col))

-- a cell as its three numbers
abbrev pub coded_cell : Coded Cell
coded_cell =
    code_by (ℕ × (ℕ × ℕ)) (coded× coded_ℕ (coded× coded_ℕ coded_ℕ)) (λ c. (c.sheet.0, (c.row, c.col)))
    (λ p. record { sheet = record { 0 = p.0 }; row = p.1.0; col = p.1.1 }) (λ _. refl)
