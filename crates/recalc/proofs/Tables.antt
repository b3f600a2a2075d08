-- What is put into a table of values.
use Rattle.std.proofs.Common.{sym, List, ◌≡◌, ◌<◌, ◌+◌, ℕ, Bool, true, false, cond, [], ◌∷◌, ◌++◌, get_or, length, ap, ◌∙◌, arith}
use Rattle.std.specs.BTreeMap.{is_at}
use Rattle.std.proofs.lemmas.List.{get_or_append_left, length-append}
use Rattle.std.proofs.Math.Seq.{get_or-append_seam}
use Rattle.cell_refs.specs.declared.cell.Cell.{Cell}
use Rattle.cell_refs.specs.declared.cell.SheetId.{SheetId}
use Rattle.cell_refs.specs.Areas.{Area}
use Rattle.cell_grids.specs.AreaRows.{cell_of_row}
use Rattle.cell_refs.specs.Cells.{cell_cmp}
use Rattle.recalc.specs.declared.values.Known.{Known}
use Rattle.recalc.specs.declared.values.Known.TheVariants as known
use Rattle.recalc.specs.declared.values.Values.{Values}
use Rattle.recalc.specs.Places.{place_in}
use Rattle.recalc.specs.Values.{IsTable, known_value, value_at, value_in_list}

-- the numbers of a row
abbrev row_in : List (List (List ℕ)) → ℕ → ℕ → List ℕ
row_in sheets sheet row = get_or (get_or sheets sheet []) row []

-- the value at the place that stands in a row and a column
pub read_at : (t : Values) (numbers : List ℕ) (place col n row : ℕ) (sheet : SheetId) (a : Area) → place ≡ get_or numbers col 0 → numbers ≡ row_in t.places sheet.0 row → sheet ≡ a.sheet
    → a.left + n ≡ col → value_in_list t place ≡ value_at t (cell_of_row a row n)
read_at t numbers place col n row sheet a is there on at =
    ap (value_in_list t) (is ∙ (λ i. get_or (there i) (sym at i) 0) ∙ ap (λ (s : SheetId). get_or (row_in t.places s.0 row) (a.left + n) 0) on)

module _ (old new : Values) (cell : Cell) (k : Known) (place : ℕ) (table : IsTable old) (at_end : place ≡ length old.known.items)
    (more : new.known.items ≡ old.known.items ++ k ∷ []) (placed : (q : Cell) → place_in new.places q ≡ cond (is_at (cell_cmp cell) q) place (place_in old.places q)) where
  -- what was in the list stays where it was
  kept : (n : ℕ) → n < length old.known.items → get_or new.known.items n known.Nothing ≡ get_or old.known.items n known.Nothing
  kept n less = ap (λ l. get_or l n known.Nothing) more ∙ get_or_append_left old.known.items (k ∷ []) known.Nothing n less

  last : get_or new.known.items place known.Nothing ≡ k
  last = (λ i. get_or (more i) (at_end i) known.Nothing) ∙ get_or-append_seam old.known.items k [] known.Nothing

  longer : length new.known.items ≡ length old.known.items + 1
  longer = ap length more ∙ length-append old.known.items (k ∷ [])

  pub put_in : (q : Cell) → value_at new q ≡ cond (is_at (cell_cmp cell) q) (known_value k) (value_at old q)
  put_in q = ap (λ n. known_value (get_or new.known.items n known.Nothing)) (placed q) ∙ by (is_at (cell_cmp cell) q)
    where
      by : (b : Bool) → known_value (get_or new.known.items (cond b place (place_in old.places q)) known.Nothing) ≡ cond b (known_value k) (value_at old q)
      by true = ap known_value last
      by false = ap known_value (kept (place_in old.places q) (table.within q))

  pub still_table : IsTable new
  still_table = record {
    empty = ap known_value (kept 0 (omega (arith, table.within cell))) ∙ table.empty;
    within = λ q. by q (is_at (cell_cmp cell) q) (placed q);
  }
    where
      by : (q : Cell) (b : Bool) → place_in new.places q ≡ cond b place (place_in old.places q) → place_in new.places q < length new.known.items
      by q true e = omega (arith, e, at_end, longer)
      by q false e = omega (arith, e, table.within q, longer)
