-- Two cells at one place are one.
use Rattle.std.proofs.Common.{◌≡◌, Bool, true, false, refl}
use Rattle.std.specs.Prelude.{◌&&◌, ◌==◌}
use Rattle.std.proofs.lemmas.Bool.{eqb-true, eq-eqb}
use Rattle.cell_refs.specs.declared.cell.Cell.{Cell}
use Rattle.cell_refs.specs.Cells.{is_same_cell}

both_true : (b c : Bool) → (b && c) ≡ true → (b ≡ true) × (c ≡ true)
both_true true c h = (refl, h)
both_true false c h = absurd cc

pub same_cells : (a b : Cell) → is_same_cell a b ≡ true → a ≡ b
same_cells a b h =
    let sheets = both_true (a.sheet.0 == b.sheet.0) ((a.row == b.row) && (a.col == b.col)) h in
    let others = both_true (a.row == b.row) (a.col == b.col) sheets.1 in
    λ i. record { sheet = record { 0 = eqb-true a.sheet.0 b.sheet.0 sheets.0 i }; row = eqb-true a.row b.row others.0 i; col = eqb-true a.col b.col others.1 i }

pub same_itself : (a : Cell) → is_same_cell a a ≡ true
same_itself a = λ i. (eq-eqb a.sheet.0 a.sheet.0 refl i) && ((eq-eqb a.row a.row refl i) && (eq-eqb a.col a.col refl i))
