-- Cells on the sheets.
use Rattle.std.proofs.Common.{◌≡◌, ◌∙◌, ℕ, suc, ◌<◌, List, [], ◌∷◌, ◌++◌, length, get_or, Option, Some, sym, ap, subst, arith}
use Rattle.std.specs.Prelude.{All, IfSome, slice_get, slice_index_or, unwrap_or}
use Rattle.std.specs.Option.{option_map}
use Rattle.std.specs.List.{AllByRecursion}
use Rattle.std.proofs.lemmas.Option.{slice_get-get_or}
use Rattle.cell_refs.specs.declared.cell.Cell.{Cell}
use Rattle.cell_refs.specs.Names.{cell_text}
use Rattle.linear_models.specs.Model.{Model, IsValid}
use Rattle.model_lines.specs.Ended.{RowReaches}
use Rattle.model_lines.specs.Cells.{cell_with_sheet}
use Rattle.model_lines.specs.Lines.{decision_text}

-- one after the other
pub by_parts : {A : Type 0} (P : A → Type 0) (xs : List A) → All P xs → AllByRecursion P xs
by_parts P [] h = tt
by_parts P (x ∷ xs) h = (h 0 x (omega arith), by_parts P xs (λ k d lt. h (suc k) d (omega (arith, lt))))

-- the rows of a valid model are forms in its decisions
pub rows_reach : (m : Model) (n : ℕ) → IsValid m → n ≡ length m.whole → AllByRecursion (RowReaches n) m.rows
rows_reach m n valid same = subst (λ k. AllByRecursion (RowReaches k) m.rows) (sym same) (by_parts (RowReaches (length m.whole)) m.rows (λ k d lt. (valid.rows k d lt).reach))

-- a cell with the name of its sheet
pub cell_said : (sheets : List (List ℕ)) (c : Cell) (old new : List ℕ) → c.sheet.0 < length sheets
    → IfSome (slice_get sheets c.sheet.0) (λ name. new ≡ old ++ cell_text name c.row c.col) → new ≡ old ++ cell_with_sheet sheets c
cell_said sheets c old new lt h =
    let name = get_or sheets c.sheet.0 [] in
    let there : slice_get sheets c.sheet.0 ≡ Some name = slice_get-get_or sheets c.sheet.0 [] lt in
    subst (λ (o : Option (List ℕ)). IfSome o (λ n. new ≡ old ++ cell_text n c.row c.col)) there h
    ∙ ap (λ (o : Option (List ℕ)). old ++ cell_text (unwrap_or o []) c.row c.col) (sym there)

-- the cell of a decision
pub decision_is : (sheets : List (List ℕ)) (cells : List Cell) (j : ℕ) (d : Cell) → j < length cells
    → decision_text sheets cells j ≡ cell_with_sheet sheets (slice_index_or cells j d)
decision_is sheets cells j d lt = ap (λ (o : Option Cell). unwrap_or (option_map (cell_with_sheet sheets) o) []) (slice_get-get_or cells j d lt)
