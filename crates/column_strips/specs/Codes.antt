-- References as pairs of cells and areas.
use Rattle.std.specs.Prelude.{ℕ, refl}
use Rattle.std.specs.Coded.{Coded, code_by, coded×, coded_list, coded_ℕ}
use Rattle.std.specs.FinMap.{code}
use Rattle.cell_refs.specs.Areas.{Area}
use Rattle.cell_refs.specs.Cells.{coded_cell}
use Rattle.column_strips.specs.Formulas.{References}

-- an area as its five numbers
abbrev pub coded_area : Coded Area
coded_area =
    code_by (ℕ × (ℕ × (ℕ × (ℕ × ℕ)))) (coded× coded_ℕ (coded× coded_ℕ (coded× coded_ℕ (coded× coded_ℕ coded_ℕ))))
    (λ a. (a.sheet.0, (a.top, (a.left, (a.further_rows, a.further_columns)))))
    (λ p. record { sheet = record { 0 = p.0 }; top = p.1.0; left = p.1.1.0; further_rows = p.1.1.1.0; further_columns = p.1.1.1.1 }) (λ _. refl)

abbrev pub references_code : Coded References
references_code = code coded_cell (coded_list coded_area)
