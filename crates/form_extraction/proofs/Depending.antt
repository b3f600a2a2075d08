-- What a formula looks at, and its form, depend on the forms of the cells at which it looks alone.
use Rattle.std.specs.Prelude.{◌<◌, ◌+◌, ◌-◌, ◌*◌, length, not, int_le, pos, ◌++◌, flat_map, slice_get, slice_index_or, option_to_list}
use Rattle.std.proofs.Common.{◌≡◌, refl, sym, ap, ap₂, ◌∙◌, subst, Bool, true, false, if◌then◌else◌, List, [], ◌∷◌, map, Option, Some, None, Result, Ok, Err, ℕ, zero, suc, arith}
use Rattle.std.specs.List.{AllByRecursion, list_all, range_with_len}
use Rattle.calculations.specs.Calculation.{narrow}
use Rattle.cell_refs.specs.declared.cell.Cell.{Cell}
use Rattle.cell_refs.specs.declared.span.Span.{Span}
use Rattle.cell_refs.specs.declared.error_kind.ErrorKind.{ErrorKind}
use Rattle.cell_refs.specs.declared.error_kind.ErrorKind.TheVariants as kind
use Rattle.sheet_funcs.specs.Picks.{from_to}
use Rattle.sheet_funcs.specs.declared.pick.Pick.{Pick}
use Rattle.sheet_funcs.specs.declared.pick.Pick.TheVariants.{Part as Picked, Fault}
use Rattle.recalculation.specs.Evaluation.{CellGrid}
use Rattle.recalculation.specs.Looks.{both, outcomes, elements, cell_in, picked_cells}
use Rattle.recalculation.proofs.Lists.{each_append, each_left, each_right}
use Rattle.form_values.specs.Trials.{Trial, Refusal, Breaks, Undecided, undecided}
use Rattle.form_values.specs.declared.abs.Abs.{Abs}
use Rattle.form_values.specs.declared.abs.Abs.TheVariants.{Known}
use Rattle.form_values.specs.declared.abs.AbsArg.{AbsArg}
use Rattle.fractions.specs.Rational.{ℚ}
use Rattle.fractions.specs.Floor.{floor_ℚ}
use Rattle.sheet_model.specs.declared.value.Value.TheVariants.{Error}
use Rattle.sheet_funcs.specs.declared.lookups.MatchKind.{MatchKind}
use Rattle.form_table.specs.Wanted.{Wanted, form, open_test, none as no_number, known_number}
use Rattle.form_values.specs.Known.{is_known}
use Rattle.form_table.specs.Lookups.{record_form, by_field, in_field, from_one}
use Rattle.form_extraction.specs.declared.forms.Why.TheVariants as why
use Rattle.form_extraction.specs.Parts.{Part, value_in, argument, tried, tried_on, on_outcome, on_part, on_parts}
use Rattle.form_extraction.specs.declared.forms.Outcome.{Outcome}
use Rattle.form_extraction.specs.declared.forms.Outcome.TheVariants.{Gives, Refused, Without}
use Rattle.form_extraction.specs.Deciding.{given_of, given_by, record_picked, cells_at}
use Rattle.form_extraction.specs.Sources.{of_cells, element, elements_at, on_elements, taken, part_places}
use Rattle.form_extraction.specs.Calls.{picked_from, record_from, raster}

-- ---- trials and parts
-- only the places of parts tell what a refused trial comes to
pub spans_same : {A : Type 0} (s : Span) (ps qs : List Part) → map (λ (p : Part). p.span) ps ≡ map (λ (p : Part). p.span) qs → (c : Trial A) (f : A → Outcome) → tried_on s ps c f ≡ tried_on s qs c f
spans_same s ps qs e c f = by (narrow c)
  where
    by : (o : Option (Result _ Refusal)) → tried s ps f o ≡ tried s qs f o
    by None = refl
    by (Some (Ok a)) = refl
    by (Some (Err Breaks)) = refl
    by (Some (Err (Undecided i))) = ap (λ spans. Refused (slice_index_or spans i s) why.Undecided) e

-- what follows on what a trial gives
pub trial_same : {A : Type 0} (s : Span) (ps : List Part) (c : Trial A) (f g : A → Outcome) → ((a : A) → given_by c ≡ Some a → f a ≡ g a) → tried_on s ps c f ≡ tried_on s ps c g
trial_same s ps c f g k = by (narrow c) (λ a e. k a e)
  where
    by : (o : Option (Result _ Refusal)) → ((a : _) → given_of o ≡ Some a → f a ≡ g a) → tried s ps f o ≡ tried s ps g o
    by None k = refl
    by (Some (Ok a)) k = k a refl
    by (Some (Err r)) k = refl

-- and on the values of parts
pub part_same : (p : Part) (f g : AbsArg → Outcome) → ((a : AbsArg) → value_in p.outcome ≡ Some a → f a ≡ g a) → on_part p f ≡ on_part p g
part_same p f g k = by p.outcome k
  where
    by : (o : Outcome) → ((a : AbsArg) → value_in o ≡ Some a → f a ≡ g a) → on_outcome o f ≡ on_outcome o g
    by (Gives a) k = k a refl
    by (Refused at cause) k = refl
    by Without k = refl

pub parts_same : (ps : List Part) (f g : List AbsArg → Outcome) → ((args : List AbsArg) → outcomes (map argument ps) ≡ Some args → f args ≡ g args) → on_parts ps f ≡ on_parts ps g
parts_same [] f g k = k [] refl
parts_same (p ∷ ps) f g k =
    part_same p (λ a. on_parts ps (λ args. f (a ∷ args))) (λ a. on_parts ps (λ args. g (a ∷ args)))
    (λ a e. parts_same ps (λ args. f (a ∷ args)) (λ args. g (a ∷ args)) (λ args d. k (a ∷ args) (ap₂ both e d)))

module _ (f g : Cell → Option Abs) where
  abbrev pub Same : Cell → Type 0
  Same b = f b ≡ g b

  abbrev pub All : List Cell → Type 0
  All cells = AllByRecursion Same cells

  -- ---- elements
  pub elements_same : (cells : List Cell) → All cells → elements f cells ≡ elements g cells
  elements_same [] h = refl
  elements_same (c ∷ cells) h = ap₂ both h.0 (elements_same cells h.1)

  element_same : (cells : List Cell) (i : ℕ) → All (option_to_list (slice_get cells i)) → element (slice_get (map f cells) i) ≡ element (slice_get (map g cells) i)
  element_same [] i h = refl
  element_same (c ∷ cells) zero h = h.0
  element_same (c ∷ cells) (suc i) h = element_same cells i h

  pub places_same : (grid : CellGrid) (places : List ℕ) → All (cells_at grid places) → elements_at (of_cells f grid) places ≡ elements_at (of_cells g grid) places
  places_same grid [] h = refl
  places_same grid (i ∷ places) h =
      ap₂ both (element_same grid.cells i (each_left Same (option_to_list (slice_get grid.cells i)) (cells_at grid places) h))
      (places_same grid places (each_right Same (option_to_list (slice_get grid.cells i)) (cells_at grid places) h))

  pub taken_same : (grid : CellGrid) (places : List ℕ) → All (cells_at grid places) → (k : List Abs → Outcome) → taken (of_cells f grid) places k ≡ taken (of_cells g grid) places k
  taken_same grid places h k = ap (λ o. on_elements o k) (places_same grid places h)

  -- the cells of a part of a grid are those in its places
  row_there : (grid : CellGrid) (row : ℕ) (columns : List ℕ) (others : List ℕ) → All (flat_map (λ column. cell_in grid row column) columns) → All (cells_at grid others)
      → All (cells_at grid (map (λ column. row * grid.columns + column) columns ++ others))
  row_there grid row [] others h k = k
  row_there grid row (column ∷ columns) others h k =
      each_append Same (cell_in grid row column) (cells_at grid (map (λ column. row * grid.columns + column) columns ++ others))
      (each_left Same (cell_in grid row column) (flat_map (λ column. cell_in grid row column) columns) h)
      (row_there grid row columns others (each_right Same (cell_in grid row column) (flat_map (λ column. cell_in grid row column) columns) h) k)

  rows_there : (grid : CellGrid) (columns rows : List ℕ) → All (flat_map (λ row. flat_map (λ column. cell_in grid row column) columns) rows)
      → All (cells_at grid (flat_map (λ row. map (λ column. row * grid.columns + column) columns) rows))
  rows_there grid columns [] h = tt
  rows_there grid columns (row ∷ rows) h =
      row_there grid row columns (flat_map (λ row. map (λ column. row * grid.columns + column) columns) rows)
      (each_left Same (flat_map (λ column. cell_in grid row column) columns) (flat_map (λ row. flat_map (λ column. cell_in grid row column) columns) rows) h)
      (rows_there grid columns rows (each_right Same (flat_map (λ column. cell_in grid row column) columns) (flat_map (λ row. flat_map (λ column. cell_in grid row column) columns) rows) h))

  pub picked_same : (grid : CellGrid) (p : Pick) → All (picked_cells grid p) → picked_from (of_cells f grid) p ≡ picked_from (of_cells g grid) p
  picked_same grid (Picked top left bottom right) h =
      taken_same grid (part_places (of_cells g grid) top left bottom right) (rows_there grid (from_to left right) (from_to top bottom) h) (λ items. Gives (raster (bottom + 1 - top) (right + 1 - left) items))
  picked_same grid (Fault k) h = refl

  alone : (n : ℕ) → from_to n n ≡ n ∷ []
  alone n = let e : n + 1 - n ≡ 1 = omega arith in ap (λ m. range_with_len n m) e

  pub record_same : (grid : CellGrid) (r : Result (ℕ × ℕ) ErrorKind) → All (picked_cells grid (record_picked r)) → record_from (of_cells f grid) r ≡ record_from (of_cells g grid) r
  record_same grid (Ok place) h =
      taken_same grid ((place.0 * grid.columns + place.1) ∷ [])
      (rows_there grid (place.1 ∷ []) (place.0 ∷ []) (subst All (ap₂ (λ rows columns. flat_map (λ row. flat_map (λ column. cell_in grid row column) columns) rows) (alone place.0) (alone place.1)) h))
      (λ items. Gives (raster 1 1 items))
  record_same grid (Err k) h = refl

  -- the keys that are taken are those that are looked at
  pub keys_there : (grid : CellGrid) (rows : List ℕ) → All (flat_map (λ row. cell_in grid row 0) rows) → All (cells_at grid (map (λ row. row * grid.columns) rows))
  keys_there grid [] h = tt
  keys_there grid (row ∷ rows) h =
      each_append Same (option_to_list (slice_get grid.cells (row * grid.columns))) (cells_at grid (map (λ row. row * grid.columns) rows))
      (subst (λ n. All (option_to_list (slice_get grid.cells n))) (plain (row * grid.columns)) (each_left Same (cell_in grid row 0) (flat_map (λ row. cell_in grid row 0) rows) h))
      (keys_there grid rows (each_right Same (cell_in grid row 0) (flat_map (λ row. cell_in grid row 0) rows) h))
    where
      plain : (n : ℕ) → n + 0 ≡ n
      plain n = omega arith

  pub keys_seen : (grid : CellGrid) (rows : List ℕ) → AllByRecursion (λ row. row * grid.columns < length grid.cells) rows → (keys : List Abs)
      → elements_at (of_cells g grid) (map (λ row. row * grid.columns) rows) ≡ Some keys → elements g (flat_map (λ row. cell_in grid row 0) rows) ≡ Some keys
  keys_seen grid [] r keys e = e
  keys_seen grid (row ∷ rows) r keys e =
      by_cell (slice_get grid.cells (row * grid.columns)) refl (elements_at (of_cells g grid) (map (λ row. row * grid.columns) rows)) refl (λ others d. keys_seen grid rows r.1 others d) e
    where
      plain : (n : ℕ) → n ≡ n + 0
      plain n = omega arith

      there : (cells : List Cell) (n : ℕ) (c : Cell) → slice_get cells n ≡ Some c → element (slice_get (map g cells) n) ≡ g c
      there [] n c d = cc
      there (b ∷ cells) zero c d = let s : b ≡ c = cc in ap g s
      there (b ∷ cells) (suc n) c d = there cells n c d

      outside : (cells : List Cell) (n : ℕ) → slice_get cells n ≡ None → n < length cells → ⊥
      outside [] n d l = absurd (omega (arith, l))
      outside (b ∷ cells) zero d l = cc
      outside (b ∷ cells) (suc n) d l = outside cells n d (omega (arith, l))

      by_cell : (o : Option Cell) → slice_get grid.cells (row * grid.columns) ≡ o → (os : Option (List Abs)) → elements_at (of_cells g grid) (map (λ row. row * grid.columns) rows) ≡ os
          → ((others : List Abs) → elements_at (of_cells g grid) (map (λ row. row * grid.columns) rows) ≡ Some others → elements g (flat_map (λ row. cell_in grid row 0) rows) ≡ Some others)
          → both (element (slice_get (map g grid.cells) (row * grid.columns))) (elements_at (of_cells g grid) (map (λ row. row * grid.columns) rows)) ≡ Some keys
          → elements g (cell_in grid row 0 ++ flat_map (λ row. cell_in grid row 0) rows) ≡ Some keys
      by_cell None d os q ih e = absurd (outside grid.cells (row * grid.columns) d r.0)
      by_cell (Some c) d None q ih e = by_form (g c) (ap₂ both (sym (there grid.cells (row * grid.columns) c d)) (sym q) ∙ e)
        where
          by_form : (o : Option Abs) → both o None ≡ Some keys → elements g (cell_in grid row 0 ++ flat_map (λ row. cell_in grid row 0) rows) ≡ Some keys
          by_form None h = cc
          by_form (Some a) h = cc
      by_cell (Some c) d (Some others) q ih e =
          ap (λ o. elements g (option_to_list o ++ flat_map (λ row. cell_in grid row 0) rows)) (ap (slice_get grid.cells) (sym (plain (row * grid.columns))) ∙ d)
          ∙ ap (both (g c)) (ih others q) ∙ (ap₂ both (sym (there grid.cells (row * grid.columns) c d)) (sym q) ∙ e)

-- ---- records without fields
no_record_at : (o : Option ℚ) (w : Wanted) (b : Abs) (keys : List Abs) (ks : List MatchKind) (place : ℕ × ℕ) → given_by (by_field o 0 w b keys ks) ≡ Some (Ok place) → ⊥
no_record_at (Some x) w b keys ks place h = by (int_le (floor_ℚ x) (pos 0)) h
  where
    by : (t : Bool) → given_by (in_field (if t then Err kind.Value else if t then Ok (from_one (floor_ℚ x)) else Err kind.Ref) b keys ks) ≡ Some (Ok place) → ⊥
    by true h = cc
    by false h = cc
no_record_at None (no_number k) b keys ks place h = by (not (is_known b)) (not (list_all is_known keys)) h
  where
    by : (p q : Bool) → given_by (if p then undecided {A = Result (ℕ × ℕ) ErrorKind} 0 else if q then undecided 1 else undecided 2) ≡ Some (Ok place) → ⊥
    by true q h = cc
    by false true h = cc
    by false false h = cc
no_record_at None open_test b keys ks place h = cc
no_record_at None (form f) b keys ks place h = by (not (is_known b)) (not (list_all is_known keys)) h
  where
    by : (p q : Bool) → given_by (if p then undecided {A = Result (ℕ × ℕ) ErrorKind} 0 else if q then undecided 1 else undecided 2) ≡ Some (Ok place) → ⊥
    by true q h = cc
    by false true h = cc
    by false false h = cc

pub no_record : (keys : List Abs) (b : Abs) (w : Wanted) (kinds : Result (List MatchKind) ErrorKind) (place : ℕ × ℕ) → given_by (record_form 0 keys b w kinds) ≡ Some (Ok place) → ⊥
no_record keys (Known (Error k)) w kinds place h = cc
no_record keys b (no_number k) kinds place h = cc
no_record keys b w (Err k) place h = cc
no_record keys b w (Ok ks) place h = no_record_at (known_number w) w b keys ks place h
