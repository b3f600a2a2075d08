-- The values of an area's cells, row by row.
use Rattle.std.proofs.Common.{◌≡◌, ◌<◌, ◌≤◌, ◌+◌, ◌-◌, ◌*◌, ◌++◌, ◌&&◌, ℕ, zero, suc, Bool, true, false, cond, List, [], ◌∷◌, map, Option, Some, None, refl, sym, ap, ◌∙◌, append_assoc, arith}
use Rattle.std.specs.Prelude.{is_some}
use Rattle.std.specs.List.{range_with_len}
use Rattle.std.proofs.lemmas.List.{map-append}
use Rattle.std.proofs.lemmas.List.FromFn.{map-range_with_len_more}
use Rattle.cell_refs.specs.declared.cell.Cell.{Cell}
use Rattle.cell_refs.specs.Areas.{Area, area_height, area_len, area_width, cell_at, cells_of}
use Rattle.cell_grids.specs.AreaRows.{cell_of_row, row_cells}
use Rattle.cell_grids.proofs.AreaRows.{one_row_more}
use Rattle.evaluation.proofs.Elements.{elements_are}
use Rattle.recalculation.specs.Looking.{are_known, known_or_empty, or_empty}
use Rattle.recalculation.specs.Looks.{elements}
use Rattle.sheet_model.specs.declared.value.Value.{Value}

module _ (f : Cell → Option Value) where
  all_of_both : (xs ys : List Cell) → are_known f (xs ++ ys) ≡ (are_known f xs && are_known f ys)
  all_of_both [] ys = refl
  all_of_both (x ∷ xs) ys = ap (λ b. is_some (f x) && b) (all_of_both xs ys) ∙ three (is_some (f x)) (are_known f xs) (are_known f ys)
    where
      three : (a b c : Bool) → (a && (b && c)) ≡ ((a && b) && c)
      three true b c = refl
      three false b c = refl

  both_true : (a b : Bool) → a ≡ true → (a && b) ≡ b
  both_true true b h = refl
  both_true false b h = absurd cc

  and_false : (a b : Bool) → a ≡ false → (a && b) ≡ false
  and_false false b h = refl
  and_false true b h = absurd cc

  one_alone : (q : Cell) → are_known f (q ∷ []) ≡ is_some (f q)
  one_alone q = alone (is_some (f q))
    where
      alone : (b : Bool) → (b && true) ≡ b
      alone true = refl
      alone false = refl

  -- the first cells of a list by numbers
  module _ (g : ℕ → Cell) where
    abbrev firsts : ℕ → List Cell
    firsts n = map g (range_with_len 0 n)

    more : (n : ℕ) → firsts (n + 1) ≡ firsts n ++ g n ∷ []
    more n = map-range_with_len_more g 0 n n (omega arith)

    pub known_more : (n : ℕ) → are_known f (map g (range_with_len 0 n)) ≡ true → are_known f (map g (range_with_len 0 (n + 1))) ≡ is_some (f (g n))
    known_more n h = ap (are_known f) (more n) ∙ all_of_both (firsts n) (g n ∷ []) ∙ both_true (are_known f (firsts n)) (are_known f (g n ∷ [])) h ∙ one_alone (g n)

    -- where one isn't known, not all are
    further : (n k : ℕ) → are_known f (firsts n) ≡ false → are_known f (firsts (n + k)) ≡ false
    further n zero h = ap (λ m. are_known f (firsts m)) (omega arith) ∙ h
    further n (suc k) h =
        ap (λ m. are_known f (firsts m)) (next n k) ∙ ap (are_known f) (more (n + k)) ∙ all_of_both (firsts (n + k)) (g (n + k) ∷ [])
        ∙ and_false (are_known f (firsts (n + k))) (are_known f (g (n + k) ∷ [])) (further n k h)
      where
        next : (n k : ℕ) → n + suc k ≡ n + k + 1
        next n k = omega arith

    pub not_all : (n m : ℕ) → n ≤ m → are_known f (map g (range_with_len 0 n)) ≡ false → are_known f (map g (range_with_len 0 m)) ≡ false
    not_all n m less h = let same : n + (m - n) ≡ m = omega (arith, less) in ap (λ k. are_known f (firsts k)) (sym same) ∙ further n (m - n) h

    pub one_value : (n : ℕ) (old now new : List Value) → now ≡ old ++ map (known_or_empty f) (map g (range_with_len 0 n)) → new ≡ now ++ or_empty (f (g n)) ∷ []
        → new ≡ old ++ map (known_or_empty f) (map g (range_with_len 0 (n + 1)))
    one_value n old now new e h =
        h ∙ ap (λ l. l ++ or_empty (f (g n)) ∷ []) e ∙ append_assoc old (map (known_or_empty f) (firsts n)) (or_empty (f (g n)) ∷ [])
        ∙ ap (λ l. old ++ l) (sym (ap (map (known_or_empty f)) (more n) ∙ map-append (known_or_empty f) (firsts n) (g n ∷ [])))

  -- ---- rows of an area
  module _ (a : Area) where
    -- the cells of the first rows
    abbrev pub rows : ℕ → List Cell
    rows i = map (cell_at a) (range_with_len 0 (i * area_width a))

    pub known_row : (i row : ℕ) → a.top + i ≡ row → are_known f (rows i) ≡ true → are_known f (rows (i + 1)) ≡ are_known f (row_cells a row)
    known_row i row at h =
        ap (are_known f) (sym (one_row_more a i)) ∙ all_of_both (rows i) (row_cells a (a.top + i)) ∙ both_true (are_known f (rows i)) (are_known f (row_cells a (a.top + i))) h
        ∙ ap (λ r. are_known f (row_cells a r)) at

    pub row_values : (i row : ℕ) (now new : List Value) → a.top + i ≡ row → now ≡ map (known_or_empty f) (rows i) → new ≡ now ++ map (known_or_empty f) (row_cells a row)
        → new ≡ map (known_or_empty f) (rows (i + 1))
    row_values i row now new at e h =
        h ∙ (λ j. e j ++ map (known_or_empty f) (row_cells a (sym at j))) ∙ sym (map-append (known_or_empty f) (rows i) (row_cells a (a.top + i)))
        ∙ ap (map (known_or_empty f)) (one_row_more a i)

    no_more : (i : ℕ) → i ≤ area_height a → i * area_width a ≤ area_len a
    no_more i less = product i (area_height a) (area_width a) less
      where
        product : (i h w : ℕ) → i ≤ h → i * w ≤ h * w
        product i h w less = let k : i + (h - i) ≡ h = omega (arith, less) in omega (arith, ap (λ n. n * w) k, less)

    pub no_values : (i : ℕ) → i ≤ area_height a → are_known f (rows i) ≡ false → elements f (cells_of a) ≡ None
    no_values i less h = elements_are f (cells_of a) ∙ ap (λ b. cond b (Some (map (known_or_empty f) (cells_of a))) None) (not_all (cell_at a) (i * area_width a) (area_len a) (no_more i less) h)

    pub all_values : (i : ℕ) (values : List Value) → i ≡ area_height a → are_known f (rows i) ≡ true → values ≡ map (known_or_empty f) (rows i) → Some values ≡ elements f (cells_of a)
    all_values i values at h e =
        ap Some (e ∙ ap (λ n. map (known_or_empty f) (rows n)) at) ∙ sym (elements_are f (cells_of a) ∙ ap (λ b. cond b (Some (map (known_or_empty f) (cells_of a))) None) (ap (λ n. are_known f (rows n)) (sym at) ∙ h))

    -- ---- a row of one cell
    alone : (row : ℕ) → a.further_columns ≡ 0 → row_cells a row ≡ cell_of_row a row 0 ∷ []
    alone row e = ap (λ n. map (cell_of_row a row) (range_with_len 0 (n + 1))) e

    pub known_alone : (row : ℕ) → a.further_columns ≡ 0 → are_known f (row_cells a row) ≡ is_some (f (cell_of_row a row 0))
    known_alone row e = ap (are_known f) (alone row e) ∙ one_alone (cell_of_row a row 0)

    pub value_alone : (row : ℕ) (values : List Value) → a.further_columns ≡ 0
        → values ++ or_empty (f (cell_of_row a row 0)) ∷ [] ≡ values ++ map (known_or_empty f) (row_cells a row)
    value_alone row values e = ap (λ cells. values ++ map (known_or_empty f) cells) (sym (alone row e))

  -- ---- one cell after the other
  pub some_unknown : (a : Area) (place : ℕ) → place < area_len a → are_known f (map (cell_at a) (range_with_len 0 place)) ≡ true → is_some (f (cell_at a place)) ≡ false → None ≡ elements f (cells_of a)
  some_unknown a place less h e =
      sym (elements_are f (cells_of a) ∙ ap (λ b. cond b (Some (map (known_or_empty f) (cells_of a))) None)
      (not_all (cell_at a) (place + 1) (area_len a) (omega (arith, less)) (known_more (cell_at a) place h ∙ e)))

  pub each_known : (a : Area) (place : ℕ) (values : List Value) → place ≡ area_len a → are_known f (map (cell_at a) (range_with_len 0 place)) ≡ true
      → values ≡ map (known_or_empty f) (map (cell_at a) (range_with_len 0 place)) → Some values ≡ elements f (cells_of a)
  each_known a place values at h e =
      ap Some (e ∙ ap (λ n. map (known_or_empty f) (map (cell_at a) (range_with_len 0 n))) at)
      ∙ sym (elements_are f (cells_of a) ∙ ap (λ b. cond b (Some (map (known_or_empty f) (cells_of a))) None) (ap (λ n. are_known f (map (cell_at a) (range_with_len 0 n))) (sym at) ∙ h))
