-- The error that VLOOKUP and HLOOKUP certainly find, under every assignment.
use Rattle.std.specs.Prelude.{◌-◌, ◌*◌, ◌+◌, ℤ, negsuc, int_le, slice_get, slice_index_or, is_none}
use Rattle.std.specs.Result.{result_map_both}
use Rattle.std.proofs.Common.{◌≡◌, refl, sym, ap, ap₂, ◌∙◌, Bool, true, false, true≢false, if◌then◌else◌, List, [], ◌∷◌, map, Option, Some, None, Result, Ok, Err, ℕ, zero, suc, pos, arith}
use Rattle.fractions.specs.Rational.{ℚ}
use Rattle.fractions.specs.Floor.{floor_ℚ}
use Rattle.calculations.specs.Calculation.{exact}
use Rattle.cell_refs.specs.declared.error_kind.ErrorKind.{ErrorKind}
use Rattle.cell_refs.specs.declared.error_kind.ErrorKind.TheVariants as kind
use Rattle.sheet_model.specs.Conversions.{number_in}
use Rattle.sheet_model.specs.declared.value.Value.{Value}
use Rattle.sheet_model.specs.declared.value.Value.TheVariants.{Number, Text, Logical, Empty, Error}
use Rattle.sheet_model.specs.declared.grid.Arg.{Arg}
use Rattle.sheet_model.specs.declared.grid.Arg.TheVariants as arg
use Rattle.sheet_model.specs.Grids.{Rectangle}
use Rattle.sheet_funcs.specs.Arguments as functions
use Rattle.sheet_funcs.specs.Arguments.{no_error, on_ok, answered, column_of}
use Rattle.sheet_funcs.specs.Lookups.{found, is_sorted, lookup_of}
use Rattle.sheet_funcs.specs.Rounding.{place_of}
use Rattle.sheet_funcs.specs.declared.lookups.MatchKind.{MatchKind}
use Rattle.sheet_funcs.specs.declared.lookups.MatchKind.TheVariants.{Equal, Rising}
use Rattle.affine_forms.specs.Forms.{Assignment}
use Rattle.form_values.specs.Meaning.{abs_at, arg_at}
use Rattle.form_values.proofs.Opening.{arg_sound}
use Rattle.form_values.specs.declared.abs.Abs.{Abs}
use Rattle.form_values.specs.declared.abs.Abs.TheVariants.{Known, Affine, Test}
use Rattle.form_values.specs.declared.abs.AbsArg.{AbsArg}
use Rattle.form_values.specs.declared.abs.AbsArg.TheVariants.{One, Area}
use Rattle.form_table.specs.Wanted.{Wanted, known_number, number_of, value_of, grid_of}
use Rattle.form_table.specs.Products.{transposed}
use Rattle.form_table.specs.Lookups.{known_value, error_of, kinds_in, from_one, field_at}
use Rattle.form_table.specs.CertainRecords.{element_error, errors_in, found_error, in_field_error, by_field_error, record_error}
use Rattle.form_truth.specs.Picks.{first_column, CertainIsFound, CertainIsFoundAcross}
use Rattle.form_truth.proofs.Arguments.{value_at, value_sound}
use Rattle.form_truth.proofs.CertainRecords.{error_found, found_right}
use Rattle.form_truth.proofs.Finding.{column_is, columns_are, exchanged_is}
use Rattle.form_truth.proofs.Fitting.{Fits, fits}
use Rattle.form_truth.proofs.LookupSteps.{element_or, looked_up, lookup_steps}
use Rattle.form_truth.proofs.Records.{Among, place, place_known, sorted_right}

-- ---- an element that is an error is so under every assignment
module _ (x : Assignment) where
  error_at : (a : Abs) (k : ErrorKind) → error_of a ≡ Some k → abs_at x a ≡ Error k
  error_at (Known (Error l)) k e = let s : l ≡ k = cc in ap Error s
  error_at (Known (Number y)) k e = cc
  error_at (Known (Text y)) k e = cc
  error_at (Known (Logical y)) k e = cc
  error_at (Known Empty) k e = cc
  error_at (Affine f) k e = cc
  error_at (Test f r) k e = cc

  -- elements that are seen have their values
  abbrev pub AreSeen : List (Option Abs) → List Value → Type 0
  AreSeen items us = (i : ℕ) (a : Abs) → slice_get items i ≡ Some (Some a) → slice_index_or us i Empty ≡ abs_at x a

  element_at : (us : List Value) (i : ℕ) (o : Option (Option Abs)) → ((a : Abs) → o ≡ Some (Some a) → slice_index_or us i Empty ≡ abs_at x a) → (k : ErrorKind) → element_error o ≡ Some k
      → slice_index_or us i Empty ≡ Error k
  element_at us i None seen k h = cc
  element_at us i (Some None) seen k h = cc
  element_at us i (Some (Some a)) seen k h = seen a refl ∙ error_at a k h

  -- what isn't an error is none under any
  fine : (b : Abs) → error_of b ≡ None → no_error (abs_at x b) ≡ Ok (abs_at x b)
  fine (Known (Error l)) e = cc
  fine (Known (Number y)) e = refl
  fine (Known (Text y)) e = refl
  fine (Known (Logical y)) e = refl
  fine (Known Empty) e = refl
  fine (Affine f) e = refl
  fine (Test f r) e = refl

  -- ---- in a table of these elements
  module _ (g : Rectangle) (fields : ℕ) (same : fields ≡ g.columns) (keys : List Abs) (column : column_of g 0 ≡ map (abs_at x) keys) (items : List (Option Abs)) (seen : AreSeen items g.items) (b : Abs) where
    abbrev kind_by : Bool → MatchKind
    kind_by s = if s then Rising else Equal

    from_first : (row : ℕ) → row ≡ 0 + row
    from_first row = omega arith

    -- in a field that there is
    in_row : (n : ℕ) (o : Option ℕ) (k : ErrorKind) → error_found (errors_in fields items (n - 1)) 0 (Some kind.NotAvailable) o ≡ Some k → element_or g (pos n) o ≡ Error k
    in_row n None k h = let s : kind.NotAvailable ≡ k = cc in ap Error s
    in_row n (Some row) k h =
        ap (λ c. slice_index_or g.items (row * c + (n - 1)) Empty) (sym same)
        ∙ element_at g.items (row * fields + (n - 1)) (slice_get items (row * fields + (n - 1))) (seen (row * fields + (n - 1))) k (ap (errors_in fields items (n - 1)) (from_first row) ∙ h)

    by_kind : (s : Bool) (kinds : List MatchKind) → Among s kinds → (n : ℕ) (k : ErrorKind) → found_error (errors_in fields items (n - 1)) (known_value b) keys kinds ≡ Some k
        → element_or g (pos n) (found (kind_by s) (abs_at x b) (column_of g 0)) ≡ Error k
    by_kind s kinds a n k h =
        ap (λ vs. element_or g (pos n) (found (kind_by s) (abs_at x b) vs)) column
        ∙ in_row n (found (kind_by s) (abs_at x b) (map (abs_at x) keys)) k (found_right x b s kinds a (errors_in fields items (n - 1)) keys k h)

    looked : (n : ℤ) (s : Bool) (kinds : List MatchKind) → Among s kinds → (k : ErrorKind) → in_field_error fields items (known_value b) keys kinds (field_at fields n) ≡ Some k → looked_up g (abs_at x b) n s ≡ Error k
    looked n s kinds a k h =
        ap (λ c. if int_le n (pos 0) then Error kind.Value else if int_le n (pos c) then element_or g n (found (kind_by s) (abs_at x b) (column_of g 0)) else Error kind.Ref) (sym same)
        ∙ by_place n (int_le n (pos 0)) refl (int_le n (pos fields)) h
      where
        by_place : (n : ℤ) (p : Bool) → int_le n (pos 0) ≡ p → (q : Bool) → in_field_error fields items (known_value b) keys kinds (if p then Err kind.Value else if q then Ok (from_one n) else Err kind.Ref) ≡ Some k
            → (if p then Error kind.Value else if q then element_or g n (found (kind_by s) (abs_at x b) (column_of g 0)) else Error kind.Ref) ≡ Error k
        by_place n true e q h = cc
        by_place n false e false h = cc
        by_place (pos n) false e true h = by_kind s kinds a n k h
        by_place (negsuc n) false e true h = absurd (true≢false e)

    -- behind a key that is no error
    module _ (c : Abs) (rest : List AbsArg) where
      abbrev value : Result Value ErrorKind → Arg
      value v = exact (on_ok v (λ k. on_ok (place x c) (λ n. on_ok (is_sorted (map (arg_at x) rest)) (λ s. answered (looked_up g k n s)))))

      by_field : (w : Wanted) → Fits c w → (kinds : Result (List MatchKind) ErrorKind) → kinds_in rest ≡ kinds → (o : Option ℚ) → known_number w ≡ o → (k : ErrorKind)
          → by_field_error fields items (known_value b) keys o kinds ≡ Some k → value (Ok (abs_at x b)) ≡ arg.One (Error k)
      by_field w i kinds e None d k h = cc
      by_field w i (Err l) e (Some y) d k h = cc
      by_field w i (Ok kinds) e (Some y) d k h =
          let s = sorted_right x rest kinds e in
          ap (λ r. exact (on_ok r (λ n. on_ok (is_sorted (map (arg_at x) rest)) (λ s. answered (looked_up g (abs_at x b) n s))))) (place_known x c w i y d)
          ∙ ap (λ s. exact (on_ok s (λ s. answered (looked_up g (abs_at x b) (floor_ℚ y) s)))) s.is
          ∙ ap arg.One (looked (floor_ℚ y) s.answer kinds s.among k h)

      by_key : (o : Option ErrorKind) → error_of b ≡ o → (w : Wanted) → Fits c w → (k : ErrorKind)
          → (if is_none o then by_field_error fields items (known_value b) keys (known_number w) (kinds_in rest) else None) ≡ Some k → value (no_error (abs_at x b)) ≡ arg.One (Error k)
      by_key (Some l) e w i k h = cc
      by_key None e w i k h = ap value (fine b e) ∙ by_field w i (kinds_in rest) refl (known_number w) refl k h

      pub certain_record : (w : Wanted) → Fits c w → (k : ErrorKind) → record_error fields items keys b w (kinds_in rest) ≡ Some k
          → exact (on_ok (no_error (abs_at x b)) (λ k. on_ok (place x c) (λ n. on_ok (is_sorted (map (arg_at x) rest)) (λ s. answered (looked_up g k n s))))) ≡ arg.One (Error k)
      certain_record w i k h = by_key (error_of b) refl w i k (some_seen items w k h)
        where
          some_seen : (items : List (Option Abs)) (w : Wanted) (k : ErrorKind) → record_error fields items keys b w (kinds_in rest) ≡ Some k
              → (if is_none (error_of b) then by_field_error fields items (known_value b) keys (known_number w) (kinds_in rest) else None) ≡ Some k
          some_seen [] w k h = cc
          some_seen (a ∷ items) w k h = h

-- ---- of a table
all_seen : (x : Assignment) (items : List Abs) → AreSeen x (map Some items) (map (abs_at x) items)
all_seen x [] i b e = cc
all_seen x (a ∷ items) zero b e = let s : a ≡ b = cc in ap (abs_at x) s
all_seen x (a ∷ items) (suc i) b e = all_seen x items i b e

items_seen : (x : Assignment) (table : AbsArg) → AreSeen x (map Some (grid_of table).items) (functions.grid_of (arg_at x table)).items
items_seen x (One a) = all_seen x (a ∷ [])
items_seen x (Area g) = all_seen x g.items

pub certain_is_found : CertainIsFound
certain_is_found x key table column rest k h =
    let g = functions.grid_of (arg_at x table) in
    lookup_steps g (no_error (functions.value_of (arg_at x key))) (place_of (arg_at x column)) (is_sorted (map (arg_at x) rest))
    ∙ ap₂ (λ v p. exact (on_ok (no_error v) (λ k. on_ok p (λ n. on_ok (is_sorted (map (arg_at x) rest)) (λ s. answered (looked_up g k n s))))))
    (value_at x key) (ap (λ v. result_map_both floor_ℚ (λ k. k) (number_in v)) (value_at x column))
    ∙ certain_record x g (grid_of table).columns (columns_are x table) (first_column (grid_of table)) (column_is x table) (map Some (grid_of table).items) (items_seen x table) (value_of key) (value_of column) rest
    (number_of column) (fits (value_of column) (value_sound column (arg_sound column))) k h

pub certain_is_found_across : CertainIsFoundAcross
certain_is_found_across x key table row rest k h =
    ap (λ g. exact (lookup_of g (arg_at x key ∷ arg_at x row ∷ map (arg_at x) rest))) (exchanged_is x table (arg_sound table))
    ∙ certain_is_found x key (Area (transposed (grid_of table))) row rest k h
