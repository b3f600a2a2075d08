-- What functions find in a grid whose cells, as far as they look at them, are known: the same over the values and over what is known.
use Rattle.std.proofs.Common.{◌≡◌, ℕ, zero, suc, ◌+◌, ◌-◌, ◌*◌, ◌<◌, Bool, true, false, ◌&&◌, if◌then◌else◌, List, [], ◌∷◌, ◌++◌, refl, sym, ap, ◌∙◌, arith, Option, Some, Result, Ok, Err}
use Rattle.std.proofs.lemmas.Bool.{leb-true}
use Rattle.std.specs.Prelude.{map, flat_map, filter, zip, slice_get, slice_index_or, option_to_list, ℤ, pos, negsuc, nat_le, is_some}
use Rattle.std.specs.List.{AllByRecursion}
use Rattle.cell_refs.specs.declared.cell.Cell.{Cell}
use Rattle.cell_refs.specs.declared.error_kind.ErrorKind.{ErrorKind}
use Rattle.cell_refs.specs.declared.error_kind.ErrorKind.TheVariants as kind
use Rattle.sheet_model.specs.Grids.{Rectangle}
use Rattle.sheet_model.specs.Operators.{single}
use Rattle.sheet_model.specs.declared.value.Value.{Value}
use Rattle.sheet_model.specs.declared.value.Value.TheVariants.{Empty, Error}
use Rattle.sheet_model.specs.declared.grid.Arg.{Arg}
use Rattle.sheet_model.specs.declared.grid.Arg.TheVariants.{Area as Elements}
use Rattle.sheet_funcs.specs.Arguments.{at, column_of, answered, counted, no_error, on_ok, value_of}
use Rattle.sheet_funcs.specs.Items.{numbers_among}
use Rattle.sheet_funcs.specs.Rounding.{place_of}
use Rattle.sheet_funcs.specs.Sums.{total}
use Rattle.sheet_funcs.specs.Picks.{from_to, taken_from}
use Rattle.sheet_funcs.specs.Lookups.{field_at, field_of, found, is_sorted, kind_where, or_fault, record_pick}
use Rattle.sheet_funcs.specs.Criteria.{meets, met, sum_where}
use Rattle.sheet_funcs.specs.declared.pick.Pick.{Pick}
use Rattle.sheet_funcs.specs.declared.pick.Pick.TheVariants.{Part as Picked, Fault}
use Rattle.recalculation.specs.Evaluation.{CellGrid, values_in}
use Rattle.recalculation.specs.Looks.{both, elements, cell_in, picked_cells, column_cells}
use Rattle.recalculation.specs.Looking.{or_empty, known_or_empty, are_known, met_cells}
use Rattle.recalculation.proofs.Lists.{each_left, each_right, each_alike, each_weaker}
use Rattle.recalculation.proofs.GridCells.{IsWhole, first_column}

-- a pick by keys that count only where there is a field
pub keys_alike : (fields : ℕ) (keys others : List Value) (args : List Arg) → (0 < fields → keys ≡ others) → record_pick fields keys args ≡ record_pick fields others args
keys_alike fields keys others [] h = refl
keys_alike fields keys others (a ∷ []) h = refl
keys_alike fields keys others (key ∷ place ∷ rest) h = of_three (no_error (value_of key)) (place_of place) (is_sorted rest)
  where
    field_found : (k : Value) (s : Bool) (n : ℕ) (b : Bool) → nat_le (n + 1) fields ≡ b
        → or_fault (if b then Ok n else Err kind.Ref) (λ field. field_of field (found (kind_where s) k keys)) ≡ or_fault (if b then Ok n else Err kind.Ref) (λ field. field_of field (found (kind_where s) k others))
    field_found k s n true e =
        let least = leb-true (n + 1) fields e in
        let some : 0 < fields = omega (arith, least) in
        ap (λ vs. field_of n (found (kind_where s) k vs)) (h some)
    field_found k s n false e = refl

    at_field : (k : Value) (s : Bool) (n : ℤ)
        → or_fault (field_at fields n) (λ field. field_of field (found (kind_where s) k keys)) ≡ or_fault (field_at fields n) (λ field. field_of field (found (kind_where s) k others))
    at_field k s (pos zero) = refl
    at_field k s (pos (suc n)) = field_found k s n (nat_le (n + 1) fields) refl
    at_field k s (negsuc n) = refl

    of_three : (key : Result Value ErrorKind) (place : Result ℤ ErrorKind) (sorted : Result Bool ErrorKind)
        → or_fault key (λ k. or_fault place (λ n. or_fault sorted (λ s. or_fault (field_at fields n) (λ field. field_of field (found (kind_where s) k keys)))))
        ≡ or_fault key (λ k. or_fault place (λ n. or_fault sorted (λ s. or_fault (field_at fields n) (λ field. field_of field (found (kind_where s) k others)))))
    of_three (Ok k) (Ok n) (Ok s) = at_field k s n
    of_three (Ok k) (Ok n) (Err e) = refl
    of_three (Ok k) (Err e) sorted = refl
    of_three (Err e) place sorted = refl

module _ (known : Cell → Option Value) (value : Cell → Value) where
  -- the value of a cell is known
  abbrev pub Seen : Cell → Type 0
  Seen b = known b ≡ Some (value b)

  -- what stands in its place where values are made of what is known
  abbrev filled_in : Cell → Value
  filled_in = known_or_empty known

  -- a value that is known stands in its own place
  pub seen_value : (b : Cell) → Seen b → value b ≡ filled_in b
  seen_value b h = sym (ap or_empty h)

  -- cells whose values are known are known
  pub seen_known : (cells : List Cell) → AllByRecursion Seen cells → are_known known cells ≡ true
  seen_known [] h = refl
  seen_known (b ∷ cells) h = ap (λ o. is_some o && are_known known cells) h.0 ∙ seen_known cells h.1

  -- these are their values
  pub seen_elements : (cells : List Cell) → AllByRecursion Seen cells → elements known cells ≡ Some (map value cells)
  seen_elements [] h = refl
  seen_elements (b ∷ cells) h = let others = seen_elements cells h.1 in λ i. both (h.0 i) (others i)

  -- the values of such cells
  seen_values : (cells : List Cell) → AllByRecursion Seen cells → map value cells ≡ map filled_in cells
  seen_values cells h = each_alike value filled_in cells (each_weaker Seen (λ b. value b ≡ filled_in b) seen_value cells h)

  -- the values of some cells are known
  abbrev AllSeen : List Cell → Type 0
  AllSeen cells = AllByRecursion Seen cells

  -- ---- functions that pick from a reference
  got_same : (cells : List Cell) (n : ℕ) → AllSeen (option_to_list (slice_get cells n)) → slice_index_or (map value cells) n Empty ≡ slice_index_or (map filled_in cells) n Empty
  got_same [] n h = refl
  got_same (b ∷ cells) zero h = seen_value b h.0
  got_same (b ∷ cells) (suc n) h = got_same cells n h

  module _ (g : CellGrid) where
    -- the element in a row and a column
    cell_same : (row column : ℕ) → AllSeen (cell_in g row column) → at (values_in value g) row column ≡ at (values_in filled_in g) row column
    cell_same row column h = got_same g.cells (row * g.columns + column) h

    -- the elements of some columns in a row
    row_same : (row : ℕ) (columns : List ℕ) → AllSeen (flat_map (λ column. cell_in g row column) columns)
        → map (λ column. at (values_in value g) row column) columns ≡ map (λ column. at (values_in filled_in g) row column) columns
    row_same row [] h = refl
    row_same row (column ∷ columns) h =
        let one = cell_same row column (each_left Seen (cell_in g row column) _ h) in
        let others = row_same row columns (each_right Seen (cell_in g row column) _ h) in
        λ i. (one i) ∷ (others i)

    -- and in some rows
    rows_same : (columns rows : List ℕ) → AllSeen (flat_map (λ row. flat_map (λ column. cell_in g row column) columns) rows)
        → flat_map (λ row. map (λ column. at (values_in value g) row column) columns) rows ≡ flat_map (λ row. map (λ column. at (values_in filled_in g) row column) columns) rows
    rows_same columns [] h = refl
    rows_same columns (row ∷ rows) h =
        let one = row_same row columns (each_left Seen (flat_map (λ column. cell_in g row column) columns) _ h) in
        let others = rows_same columns rows (each_right Seen (flat_map (λ column. cell_in g row column) columns) _ h) in
        λ i. (one i) ++ (others i)

    -- what INDEX picks
    pub picked_same : (p : Pick) → AllSeen (picked_cells g p) → taken_from (values_in value g) p ≡ taken_from (values_in filled_in g) p
    picked_same (Picked top left bottom right) h =
        ap (λ items. single (Elements (record { rows = bottom + 1 - top; columns = right + 1 - left; items = items }))) (rows_same (from_to left right) (from_to top bottom) h)
    picked_same (Fault k) h = refl

  -- ---- lookups
  module _ (g : CellGrid) (whole : IsWhole g) (seen : AllSeen (column_cells g 0)) where
    -- the keys
    abbrev keys : List Value
    keys = map value (column_cells g 0)

    -- a pick by the first column of the values, and of what is known of them, is one by the keys
    pick_here : (args : List Arg) → record_pick g.columns (column_of (values_in value g) 0) args ≡ record_pick g.columns keys args
    pick_here args = keys_alike g.columns (column_of (values_in value g) 0) keys args (λ some. sym (first_column value g whole some))

    pick_there : (args : List Arg) → record_pick g.columns (column_of (values_in filled_in g) 0) args ≡ record_pick g.columns keys args
    pick_there args =
        keys_alike g.columns (column_of (values_in filled_in g) 0) keys args (λ some. sym (first_column filled_in g whole some) ∙ sym (seen_values (column_cells g 0) seen))

    -- so what a lookup picks is the same
    pub lookup_same : (args : List Arg) → AllSeen (picked_cells g (record_pick g.columns keys args))
        → taken_from (values_in value g) (record_pick g.columns (column_of (values_in value g) 0) args)
        ≡ taken_from (values_in filled_in g) (record_pick g.columns (column_of (values_in filled_in g) 0) args)
    lookup_same args h =
        ap (taken_from (values_in value g)) (pick_here args) ∙ picked_same g (record_pick g.columns keys args) h
        ∙ sym (ap (taken_from (values_in filled_in g)) (pick_there args))

  -- ---- sums by a criterion
  -- the values of the cells that are summed
  met_values : (f : Cell → Value) (test : Value → Bool) (items : List Value) (cells : List Cell)
      → map (λ (p : Value × Value). p.1) (filter (λ (p : Value × Value). test p.0) (zip items (map f cells)))
      ≡ map f (map (λ (p : Value × Cell). p.1) (filter (λ (p : Value × Cell). test p.0) (zip items cells)))
  met_values f test [] cells = refl
  met_values f test (v ∷ items) [] = refl
  met_values f test (v ∷ items) (b ∷ cells) =
      let others = met_values f test items cells in
      elim (test v) as (λ w. map (λ (p : Value × Value). p.1) (if w then (v, f b) ∷ filter (λ (p : Value × Value). test p.0) (zip items (map f cells)) else filter (λ (p : Value × Value). test p.0) (zip items (map f cells)))
      ≡ map f (map (λ (p : Value × Cell). p.1) (if w then (v, b) ∷ filter (λ (p : Value × Cell). test p.0) (zip items cells) else filter (λ (p : Value × Cell). test p.0) (zip items cells)))) [
        | true ↦ ap (λ vs. f b ∷ vs) others
        | false ↦ others
      ]

  -- the sum where the grids are of one size
  summed_of_size : (b : Bool) (cells : List Cell) (vs ws : List Value) → (AllSeen cells → vs ≡ ws) → AllSeen (if b then cells else [])
      → (if b then on_ok (numbers_among vs) (λ xs. counted (total xs)) else answered (Error kind.Value)) ≡ (if b then on_ok (numbers_among ws) (λ xs. counted (total xs)) else answered (Error kind.Value))
  summed_of_size true cells vs ws f h = ap (λ vs. on_ok (numbers_among vs) (λ xs. counted (total xs))) (f h)
  summed_of_size false cells vs ws f h = refl

  -- what SUMIF sums
  pub summed_same : (g : CellGrid) (tested : Rectangle) (criterion : Result Value ErrorKind) → AllSeen (met_cells g tested criterion)
      → on_ok criterion (λ c. sum_where tested c (values_in value g)) ≡ on_ok criterion (λ c. sum_where tested c (values_in filled_in g))
  summed_same g tested (Ok c) h =
      let cells = met c tested.items g.cells in
      summed_of_size _ cells (met c tested.items (map value g.cells)) (met c tested.items (map filled_in g.cells))
      (λ seen. met_values value (meets c) tested.items g.cells ∙ seen_values cells seen ∙ sym (met_values filled_in (meets c) tested.items g.cells)) h
  summed_same g tested (Err k) h = refl
