-- What names stand for, and whether that is one thing.
use Rattle.std.proofs.Common.{◌≡◌, arith}
use Rattle.cell_refs.specs.Areas.{Area, bottom, right}

pub area_is : (a b : Area) → a.sheet.0 ≡ b.sheet.0 → a.top ≡ b.top → a.left ≡ b.left → bottom a ≡ bottom b → right a ≡ right b → a ≡ b
area_is a b s t l m r =
    let rows : a.further_rows ≡ b.further_rows = omega arith in
    let columns : a.further_columns ≡ b.further_columns = omega arith in
    λ i. record { sheet = record { 0 = s i }; top = t i; left = l i; further_rows = rows i; further_columns = columns i }
