-- VLOOKUP by open keys, columns and orders: what is found, and which argument leaves it undecided.
use Rattle.std.specs.Prelude.{not, ◌||◌, slice_get, ⊤}
use Rattle.std.specs.List.{AllByRecursion, list_all, list_any}
use Rattle.std.specs.Result.{result_map_both}
use Rattle.std.proofs.Common.{◌≡◌, refl, sym, ap, ap₂, ◌∙◌, subst, Bool, true, false, if◌then◌else◌, List, [], ◌∷◌, map, Option, Some, None, Result, Ok, Err, ℕ, zero, suc}
use Rattle.fractions.specs.Rational.{ℚ}
use Rattle.fractions.specs.Floor.{floor_ℚ}
use Rattle.calculations.specs.Calculation.{exact}
use Rattle.cell_refs.specs.declared.error_kind.ErrorKind.{ErrorKind}
use Rattle.cell_refs.specs.declared.error_kind.ErrorKind.TheVariants as kind
use Rattle.sheet_model.specs.Conversions.{number_in, logical_in}
use Rattle.sheet_model.specs.Grids.{Rectangle}
use Rattle.sheet_model.specs.declared.value.Value.{Value}
use Rattle.sheet_model.specs.declared.value.Value.TheVariants.{Number, Text, Logical, Empty, Error}
use Rattle.sheet_model.specs.declared.grid.Arg.TheVariants as arg
use Rattle.sheet_funcs.specs.Arguments as functions
use Rattle.sheet_funcs.specs.Arguments.{no_error, on_ok, answered, column_of, below}
use Rattle.sheet_funcs.specs.Lookups.{lookup_of, is_sorted, vlookup_of, hlookup_of}
use Rattle.sheet_funcs.specs.Products as products
use Rattle.sheet_funcs.specs.declared.lookups.MatchKind.{MatchKind}
use Rattle.sheet_funcs.specs.declared.lookups.MatchKind.TheVariants.{Equal, Rising}
use Rattle.affine_forms.specs.Forms.{Assignment, AffineForm}
use Rattle.form_values.specs.Grids.{Raster}
use Rattle.form_values.specs.Meaning.{abs_at, arg_at}
use Rattle.form_values.proofs.Opening.{IsAbs, IsSound, arg_sound, args_sound}
use Rattle.form_values.specs.Refusals.{Varies}
use Rattle.form_values.specs.Trials.{Refusal, Breaks, Undecided, given, undecided}
use Rattle.form_values.specs.declared.abs.Abs.{Abs}
use Rattle.form_values.specs.declared.abs.Abs.TheVariants.{Known, Affine, Test}
use Rattle.form_values.specs.declared.abs.AbsArg.{AbsArg}
use Rattle.form_values.specs.declared.abs.AbsArg.TheVariants.{One, Area}
use Rattle.form_table.specs.Wanted.{Wanted, form, open_test, none, value_of, number_of, known_number, grid_of}
use Rattle.form_values.specs.Known.{is_known}
use Rattle.form_table.specs.Lookups.{may_be_key, known_value, known_keys, kinds_by, kinds_of, kinds_in, field_at, is_missing, by_record, in_field, open_field, by_field, record_form}
use Rattle.form_table.specs.Products.{at, transposed}
use Rattle.form_truth.specs.Rows.{ArgumentVaries}
use Rattle.form_truth.specs.Picks.{first_column, read, IsRecord, LookupIsRight, AcrossIsRight}
use Rattle.form_truth.proofs.Arguments.{value_at, value_sound}
use Rattle.form_truth.proofs.Dots.{item_sound}
use Rattle.form_truth.proofs.Fitting.{fits}
use Rattle.form_truth.proofs.LookupSteps.{looked_up, lookup_steps}
use Rattle.form_truth.proofs.Matching.{Asked, asks_form, asks_test, asked}
use Rattle.form_truth.proofs.Matrices.{grid_sound}
use Rattle.form_truth.proofs.Records.{record_right}
use Rattle.form_truth.proofs.Transposing.{grid_at, grid_is, element_is, transpose_right}
use Rattle.form_truth.proofs.Varying.{argument_open, items_vary, keys_open}

-- ---- the keys
first_at : (x : Assignment) (g : Raster) (ns : List ℕ) → map (λ row. functions.at (grid_at x g) row 0) ns ≡ map (abs_at x) (map (λ row. at g row 0) ns)
first_at x g [] = refl
first_at x g (n ∷ ns) = ap₂ (λ v vs. v ∷ vs) (element_is x g n 0) (first_at x g ns)

pub column_is : (x : Assignment) (table : AbsArg) → column_of (functions.grid_of (arg_at x table)) 0 ≡ map (abs_at x) (first_column (grid_of table))
column_is x table = ap (λ g. column_of g 0) (grid_is x table) ∙ first_at x (grid_of table) (below (grid_of table).rows)

pub columns_are : (x : Assignment) (table : AbsArg) → (grid_of table).columns ≡ (functions.grid_of (arg_at x table)).columns
columns_are x (One a) = refl
columns_are x (Area g) = refl

keys_sound : (g : Raster) → AllByRecursion IsAbs g.items → (ns : List ℕ) → AllByRecursion IsAbs (map (λ row. at g row 0) ns)
keys_sound g h [] = tt
keys_sound g h (n ∷ ns) = (item_sound g.items _ h, keys_sound g h ns)

not_known : (b : Abs) → is_known b ≡ false → known_value b ≡ None
not_known (Known v) e = absurd (Rattle.std.proofs.Common.true≢false e)
not_known (Affine f) e = refl
not_known (Test f r) e = refl

no_form : (f : AffineForm) (k : ErrorKind) → form f ≡ none k → ⊥
no_form f k e = cc

no_test : (k : ErrorKind) → open_test ≡ none k → ⊥
no_test k e = cc

module _ (key table column : AbsArg) (rest : List AbsArg) (h : IsSound key) (i : IsSound table) (j : IsSound column) (l : AllByRecursion IsSound rest) where
  abbrev args : List AbsArg
  args = key ∷ table ∷ column ∷ rest

  abbrev keys : List Abs
  keys = first_column (grid_of table)

  abbrev fields : ℕ
  fields = (grid_of table).columns

  abbrev b : Abs
  b = value_of key

  abbrev IsRefusal : Result (Result (ℕ × ℕ) ErrorKind) Refusal → Type 0
  IsRefusal (Ok r) = ⊤
  IsRefusal (Err Breaks) = ⊥
  IsRefusal (Err (Undecided n)) = ArgumentVaries arg_at args n

  -- ---- arguments that are open
  key_varies : known_value b ≡ None → ArgumentVaries arg_at args 0
  key_varies e = record { argument = key; is_there = refl; varies = argument_open key h e }

  keys_vary : list_all is_known keys ≡ false → ArgumentVaries arg_at args 1
  keys_vary e =
      let v = items_vary keys (keys_sound (grid_of table) (grid_sound table i) (below (grid_of table).rows)) e in
      record {
        argument = table;
        is_there = refl;
        varies = record { one = v.one; other = v.other; differ = λ s. v.differ (sym (column_is v.one table) ∙ ap (λ c. column_of (functions.grid_of c) 0) s ∙ column_is v.other table) };
      }

  column_varies : (w : Wanted) → Asked (Varies (λ x. arg_at x column)) (λ x. Rattle.sheet_funcs.specs.Rounding.number_of (arg_at x column)) w → ((k : ErrorKind) → w ≡ none k → ⊥) → known_number w ≡ None → ArgumentVaries arg_at args 2
  column_varies (none k) a n e = absurd (n k refl)
  column_varies (form f) (asks_form g d v) n e = record { argument = column; is_there = refl; varies = v e }
  column_varies open_test (asks_test d v) n e = record { argument = column; is_there = refl; varies = v }

  -- one kind of search, or the order is open
  abbrev AreKinds : List MatchKind → Type 0
  AreKinds (k ∷ []) = ⊤
  AreKinds _ = ArgumentVaries arg_at args 3

  kinds_are : (rest : List AbsArg) → AllByRecursion IsSound rest → (ks : List MatchKind) → kinds_in rest ≡ Ok ks
      → ((a : AbsArg) → slice_get rest 0 ≡ Some a → Varies (λ x. arg_at x a) → ArgumentVaries arg_at args 3) → AreKinds ks
  kinds_are [] m ks e there = let s : Rising ∷ [] ≡ ks = cc in subst AreKinds s tt
  kinds_are (a ∷ others) m ks e there = by_value (value_of a) refl e
    where
      by_value : (v : Abs) → value_of a ≡ v → kinds_of v ≡ Ok ks → AreKinds ks
      by_value (Known v) d e = by_logical (logical_in v) e
        where
          by_logical : (r : Result Bool ErrorKind) → kinds_by r ≡ Ok ks → AreKinds ks
          by_logical (Ok s) e = let q : (if s then Rising else Equal) ∷ [] ≡ ks = cc in subst AreKinds q tt
          by_logical (Err k) e = cc
      by_value (Affine f) d e = let q : Equal ∷ Rising ∷ [] ≡ ks = cc in subst AreKinds q (there a refl (argument_open a m.0 (ap known_value d)))
      by_value (Test f r) d e = let q : Equal ∷ Rising ∷ [] ≡ ks = cc in subst AreKinds q (there a refl (argument_open a m.0 (ap known_value d)))

  -- ---- the refusals
  record_refused : (field : ℕ) (k : Option Value) → known_value b ≡ k → (vs : Option (List Value)) → known_keys keys ≡ vs → (ks : List MatchKind) → AreKinds ks → IsRefusal (exact (by_record field k vs ks))
  record_refused field None e vs d ks a = key_varies e
  record_refused field (Some k) e None d ks a = keys_vary (keys_open keys d)
  record_refused field (Some k) e (Some vs) d [] a = a
  record_refused field (Some k) e (Some vs) d (s ∷ []) a = tt
  record_refused field (Some k) e (Some vs) d (s ∷ r ∷ ks) a = a

  field_refused : (field : Result ℕ ErrorKind) (ks : List MatchKind) → AreKinds ks → IsRefusal (exact (in_field field b keys ks))
  field_refused (Err k) ks a = tt
  field_refused (Ok field) ks a = by_test (not (list_any may_be_key keys) || is_missing (known_value b) keys ks)
    where
      by_test : (c : Bool) → IsRefusal (exact (if c then given (Err kind.NotAvailable) else by_record field (known_value b) (known_keys keys) ks))
      by_test true = tt
      by_test false = record_refused field (known_value b) refl (known_keys keys) refl ks a

  open_refused : (w : Wanted) → number_of column ≡ w → ((k : ErrorKind) → w ≡ none k → ⊥) → known_number w ≡ None → IsRefusal (exact (open_field w b keys))
  open_refused (none k) d n e = absurd (n k refl)
  open_refused open_test d n e = column_varies open_test (subst (Asked _ _) d (asked column (number_of column) (fits (value_of column) (value_sound column j)))) n e
  open_refused (form f) d n e = by_tests (is_known b) refl (list_all is_known keys) refl
    where
      by_tests : (p : Bool) → is_known b ≡ p → (q : Bool) → list_all is_known keys ≡ q → IsRefusal (exact (if not p then undecided 0 else if not q then undecided 1 else undecided 2))
      by_tests false s q r = key_varies (not_known b s)
      by_tests true s false r = keys_vary r
      by_tests true s true r = column_varies (form f) (subst (Asked _ _) d (asked column (number_of column) (fits (value_of column) (value_sound column j)))) n e

  number_refused : (w : Wanted) → number_of column ≡ w → ((k : ErrorKind) → w ≡ none k → ⊥) → (o : Option ℚ) → known_number w ≡ o → (ks : List MatchKind) → AreKinds ks
      → IsRefusal (exact (by_field o fields w b keys ks))
  number_refused w d n (Some y) e ks a = field_refused (field_at fields (floor_ℚ y)) ks a
  number_refused w d n None e ks a = open_refused w d n e

  past_key : (v : Abs) (w : Wanted) (kinds : Result (List MatchKind) ErrorKind)
      → (((k : ErrorKind) → w ≡ none k → ⊥) → (ks : List MatchKind) → kinds ≡ Ok ks → IsRefusal (exact (by_field (known_number w) fields w v keys ks)))
      → IsRefusal (exact (record_form fields keys v w kinds))
  past_key (Known (Error k)) w kinds h = tt
  past_key (Known (Number y)) (none k) kinds h = tt
  past_key (Known (Number y)) (form u) (Err m) h = tt
  past_key (Known (Number y)) (form u) (Ok ks) h = h (λ k. no_form u k) ks refl
  past_key (Known (Number y)) (open_test) (Err m) h = tt
  past_key (Known (Number y)) (open_test) (Ok ks) h = h (λ k. no_test k) ks refl
  past_key (Known (Text y)) (none k) kinds h = tt
  past_key (Known (Text y)) (form u) (Err m) h = tt
  past_key (Known (Text y)) (form u) (Ok ks) h = h (λ k. no_form u k) ks refl
  past_key (Known (Text y)) (open_test) (Err m) h = tt
  past_key (Known (Text y)) (open_test) (Ok ks) h = h (λ k. no_test k) ks refl
  past_key (Known (Logical y)) (none k) kinds h = tt
  past_key (Known (Logical y)) (form u) (Err m) h = tt
  past_key (Known (Logical y)) (form u) (Ok ks) h = h (λ k. no_form u k) ks refl
  past_key (Known (Logical y)) (open_test) (Err m) h = tt
  past_key (Known (Logical y)) (open_test) (Ok ks) h = h (λ k. no_test k) ks refl
  past_key (Known Empty) (none k) kinds h = tt
  past_key (Known Empty) (form u) (Err m) h = tt
  past_key (Known Empty) (form u) (Ok ks) h = h (λ k. no_form u k) ks refl
  past_key (Known Empty) (open_test) (Err m) h = tt
  past_key (Known Empty) (open_test) (Ok ks) h = h (λ k. no_test k) ks refl
  past_key (Affine f) (none k) kinds h = tt
  past_key (Affine f) (form u) (Err m) h = tt
  past_key (Affine f) (form u) (Ok ks) h = h (λ k. no_form u k) ks refl
  past_key (Affine f) (open_test) (Err m) h = tt
  past_key (Affine f) (open_test) (Ok ks) h = h (λ k. no_test k) ks refl
  past_key (Test f t) (none k) kinds h = tt
  past_key (Test f t) (form u) (Err m) h = tt
  past_key (Test f t) (form u) (Ok ks) h = h (λ k. no_form u k) ks refl
  past_key (Test f t) (open_test) (Err m) h = tt
  past_key (Test f t) (open_test) (Ok ks) h = h (λ k. no_test k) ks refl

  order_varies : (a : AbsArg) → slice_get rest 0 ≡ Some a → Varies (λ x. arg_at x a) → ArgumentVaries arg_at args 3
  order_varies a e v = record { argument = a; is_there = e; varies = v }

  refused : IsRefusal (exact (record_form fields keys b (number_of column) (kinds_in rest)))
  refused =
      past_key b (number_of column) (kinds_in rest)
      (λ n ks e. number_refused (number_of column) refl n (known_number (number_of column)) refl ks (kinds_are rest l ks e order_varies))

  -- ---- what is found
  found_at : (r : Result (ℕ × ℕ) ErrorKind) → exact (record_form fields keys b (number_of column) (kinds_in rest)) ≡ Ok r → (x : Assignment)
      → exact (vlookup_of (map (arg_at x) args)) ≡ arg.One (read (functions.grid_of (arg_at x table)) r)
  found_at r e x =
      lookup_steps (functions.grid_of (arg_at x table)) (no_error (functions.value_of (arg_at x key))) (Rattle.sheet_funcs.specs.Rounding.place_of (arg_at x column)) (is_sorted (map (arg_at x) rest))
      ∙ ap₂ (λ v p. exact (on_ok (no_error v) (λ k. on_ok p (λ n. on_ok (is_sorted (map (arg_at x) rest)) (λ s. answered (looked_up (functions.grid_of (arg_at x table)) k n s))))))
      (value_at x key) (ap (λ v. result_map_both floor_ℚ (λ k. k) (number_in v)) (value_at x column))
      ∙ record_right x (functions.grid_of (arg_at x table)) fields (columns_are x table) keys (column_is x table) b (value_of column) rest (number_of column) (fits (value_of column) (value_sound column j)) (kinds_in rest) refl r e

  by_outcome : (r : Result (Result (ℕ × ℕ) ErrorKind) Refusal) → exact (record_form fields keys b (number_of column) (kinds_in rest)) ≡ r → IsRefusal r
      → IsRecord (λ x. exact (vlookup_of (map (arg_at x) args))) (λ x. functions.grid_of (arg_at x table)) args r
  by_outcome (Ok r) e k = found_at r e
  by_outcome (Err Breaks) e k = k
  by_outcome (Err (Undecided n)) e k = k

  right : IsRecord (λ x. exact (vlookup_of (map (arg_at x) args))) (λ x. functions.grid_of (arg_at x table)) args (exact (record_form fields keys b (number_of column) (kinds_in rest)))
  right = by_outcome (exact (record_form fields keys b (number_of column) (kinds_in rest))) refl refused

pub lookup_is_right : LookupIsRight
lookup_is_right key table column rest = right key table column rest (arg_sound key) (arg_sound table) (arg_sound column) (args_sound rest)

-- ---- HLOOKUP
same_area : (g h : Rectangle) → arg.Area g ≡ arg.Area h → g ≡ h
same_area g h e = cc

pub exchanged_is : (x : Assignment) (table : AbsArg) → IsSound table → products.transposed (functions.grid_of (arg_at x table)) ≡ grid_at x (transposed (grid_of table))
exchanged_is x table i = same_area _ _ (transpose_right table i x)

module _ (key table row : AbsArg) (rest : List AbsArg) (i : IsSound table) where
  abbrev turned : AbsArg
  turned = Area (transposed (grid_of table))

  -- the turned table varies only where the table does
  table_varies : (n : ℕ) → ArgumentVaries arg_at (key ∷ turned ∷ row ∷ rest) n → ArgumentVaries arg_at (key ∷ table ∷ row ∷ rest) n
  table_varies zero v = record { argument = v.argument; is_there = v.is_there; varies = v.varies }
  table_varies (suc zero) v =
      let s : turned ≡ v.argument = (let t : Some turned ≡ Some v.argument = v.is_there in cc) in
      let w = subst (λ a. Varies (λ x. arg_at x a)) (sym s) v.varies in
      record {
        argument = table;
        is_there = refl;
        varies = record {
          one = w.one;
          other = w.other;
          differ = λ e. w.differ (ap arg.Area (sym (exchanged_is w.one table i) ∙ ap (λ c. products.transposed (functions.grid_of c)) e ∙ exchanged_is w.other table i));
        };
      }
  table_varies (suc (suc n)) v = record { argument = v.argument; is_there = v.is_there; varies = v.varies }

  across : (r : Result (Result (ℕ × ℕ) ErrorKind) Refusal)
      → IsRecord (λ x. exact (vlookup_of (map (arg_at x) (key ∷ turned ∷ row ∷ rest)))) (λ x. functions.grid_of (arg_at x turned)) (key ∷ turned ∷ row ∷ rest) r
      → IsRecord (λ x. exact (hlookup_of (map (arg_at x) (key ∷ table ∷ row ∷ rest)))) (λ x. products.transposed (functions.grid_of (arg_at x table))) (key ∷ table ∷ row ∷ rest) r
  across (Ok r) h = λ x.
      ap (λ g. exact (lookup_of g (arg_at x key ∷ arg_at x row ∷ map (arg_at x) rest))) (exchanged_is x table i) ∙ h x ∙ ap (λ g. arg.One (read g r)) (sym (exchanged_is x table i))
  across (Err Breaks) h = h
  across (Err (Undecided n)) h = table_varies n h

pub across_is_right : AcrossIsRight
across_is_right key table row rest = across key table row rest (arg_sound table) _ (lookup_is_right key (Area (transposed (grid_of table))) row rest)
