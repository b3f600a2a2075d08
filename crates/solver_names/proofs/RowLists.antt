-- The rows of constraints, one after the other.
use Rattle.std.proofs.Common.{◌≡◌, ◌≤◌, ◌+◌, ◌-◌, ℕ, List, [], ◌∷◌, ◌++◌, length, map, sym, ap, ap₂, ◌∙◌, arith, append_assoc}
use Rattle.std.specs.List.{range_with_len}
use Rattle.std.proofs.lemmas.Nat.{mul-le}
use Rattle.std.proofs.lemmas.List.FromFn.{length-map-range_with_len, map-range_with_len_more}
use Rattle.optimality.specs.declared.kinds.Relation.{Relation}
use Rattle.cell_refs.specs.declared.cell.Cell.{Cell}
use Rattle.cell_refs.specs.Areas.{Area, IsOnSheet, area_height, area_len, area_width}
use Rattle.cell_refs.specs.declared.place.Place.{Place}
use Rattle.solver_names.specs.declared.constraints.Code.TheVariants as code
use Rattle.solver_names.specs.declared.constraints.Constraint.{Constraint}
use Rattle.solver_names.specs.declared.said.Said.TheVariants.{Says}
use Rattle.solver_names.specs.Faults.{row_at, rows_by, rows_of}

-- one row for each left cell
pub rows_counted : (c : Constraint) (r : Relation) (a : Area) → c.code ≡ Says (code.Related r) → c.left ≡ Says a → length (rows_of c) ≡ area_len a
rows_counted c r a e f = ap₂ (λ x y. length (rows_by c x y)) e f ∙ length-map-range_with_len (row_at c r a) 0 (area_len a)

-- an area has at most the cells of a sheet
pub few_cells : (a : Area) → IsOnSheet a → area_len a ≤ 4194304
few_cells a on =
    let rows : area_height a ≤ 4096 = omega (arith, on.last_row) in
    let columns : area_width a ≤ 1024 = omega (arith, on.last_column) in
    mul-le (area_height a) (area_width a) 4096 1024 rows columns

-- one row more
pub one_row : (c : Constraint) (r : Relation) (a : Area) (start old new : List (Relation × Cell × Place)) (i : ℕ) → old ≡ start ++ map (row_at c r a) (range_with_len 0 i)
    → new ≡ old ++ row_at c r a i ∷ [] → new ≡ start ++ map (row_at c r a) (range_with_len 0 (i + 1))
one_row c r a start old new i so_far put =
    put ∙ ap (λ rows. rows ++ row_at c r a i ∷ []) so_far ∙ append_assoc start (map (row_at c r a) (range_with_len 0 i)) (row_at c r a i ∷ [])
    ∙ ap (λ rows. start ++ rows) (sym (map-range_with_len_more (row_at c r a) 0 i i (omega arith)))

-- one item more, of those numbered from 1 on
pub one_more : {X : Type 0} (f : ℕ → X) (k : ℕ) (old new : List X) → 1 ≤ k → old ≡ map f (range_with_len 1 (k - 1)) → new ≡ old ++ f k ∷ [] → new ≡ map f (range_with_len 1 (k + 1 - 1))
one_more f k old new some so_far put =
    let n : k - 1 + 1 ≡ k + 1 - 1 = omega (arith, some) in
    put ∙ ap (λ l. l ++ f k ∷ []) so_far ∙ sym (map-range_with_len_more f 1 (k - 1) k (omega (arith, some))) ∙ ap (λ m. map f (range_with_len 1 m)) n
