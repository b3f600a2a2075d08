-- MATCH of open arguments.
use Rattle.std.specs.Prelude.{slice_get, length, take, ◌&&◌, ◌||◌, ◌==◌, ◌+◌, not, cond, nat_lt, suc, pos}
use Rattle.std.specs.List.{AllByRecursion, list_any, before_first, position, position_or_len}
use Rattle.std.proofs.Common.{◌≡◌, refl, sym, ap, ap₂, ◌∙◌, subst, Bool, true, false, true≢false, if◌then◌else◌, List, [], ◌∷◌, map, Option, Some, None, Result, Ok, Err, ℕ, zero, arith}
use Rattle.std.proofs.lemmas.Bool.Decides.{nat_tests}
use Rattle.fractions.specs.Rational.{ℚ, zero_ℚ, one_ℚ}
use Rattle.fractions.specs.Whole.{whole_ℚ}
use Rattle.calculations.specs.Calculation.{exact}
use Rattle.cell_refs.specs.declared.error_kind.ErrorKind.{ErrorKind}
use Rattle.cell_refs.specs.declared.error_kind.ErrorKind.TheVariants as kind
use Rattle.sheet_model.specs.Conversions.{number_in}
use Rattle.sheet_model.specs.Grids.{Rectangle}
use Rattle.sheet_model.specs.declared.value.Value.{Value}
use Rattle.sheet_model.specs.declared.value.Value.TheVariants.{Number, Text, Logical, Empty, Error}
use Rattle.sheet_model.specs.declared.grid.Arg.TheVariants as arg
use Rattle.sheet_funcs.specs.Arguments.{value_of, no_error}
use Rattle.sheet_funcs.specs.Arguments as functions
use Rattle.sheet_funcs.specs.Rounding as functions_numbers
use Rattle.sheet_funcs.specs.Lookups.{is_key, is_equal_to, is_greater_than, is_less_than, last_or_this, last_place, found, kind_of, pick_by, lookup_pick, place_value, match_of}
use Rattle.sheet_funcs.specs.Lookups as functions_lookups
use Rattle.sheet_funcs.specs.declared.pick.Pick.{Pick}
use Rattle.sheet_funcs.specs.declared.pick.Pick.TheVariants.{Fault}
use Rattle.sheet_funcs.specs.declared.lookups.MatchKind.{MatchKind}
use Rattle.sheet_funcs.specs.declared.lookups.MatchKind.TheVariants.{Equal, Rising, Falling}
use Rattle.affine_forms.specs.Forms.{Assignment, AffineForm, IsForm, worth, constant_form}
use Rattle.form_values.specs.Grids.{Raster}
use Rattle.form_values.specs.Meaning.{abs_at, arg_at}
use Rattle.form_values.proofs.Opening.{IsOpen, abs_sound, arg_sound, IsSound}
use Rattle.form_values.specs.Refusals.{Varies}
use Rattle.form_values.specs.Trials.{Trial, Refusal, Breaks, Undecided, given, and_then, on_given}
use Rattle.form_values.specs.declared.abs.Abs.{Abs}
use Rattle.form_values.specs.declared.abs.Abs.TheVariants.{Known, Affine, Test}
use Rattle.form_values.specs.declared.abs.AbsArg.{AbsArg}
use Rattle.form_values.specs.declared.abs.AbsArg.TheVariants.{One, Area}
use Rattle.form_table.specs.Wanted as wanted
use Rattle.form_table.specs.Wanted.{Wanted, form, open_test, none, grid_of, number_of, constant_of, known_number}
use Rattle.form_table.specs.Lookups.{may_be_key, known_value, known_keys, pick_in, by_kind, by_keys, has_no_place, by_places, lookup_form, lookup_pick_form, match_pick, match_form}
use Rattle.form_truth.specs.Picks.{IsPick, FoundIsRight}
use Rattle.form_truth.proofs.Right.{IsRightArg, ArgumentVaries}
use Rattle.form_truth.proofs.Exact.{exact-and_then}
use Rattle.form_truth.proofs.Fitting.{Fits, is_none, is_form, is_open, fits, constant_is, open_is, constant_worth, at_value, at_value_worth, zero_is_not_one}
use Rattle.form_truth.proofs.Ended.{never_found_right}
use Rattle.form_truth.proofs.Arguments.{value_at, value_sound, argument_varies}
use Rattle.form_truth.proofs.Varying.{value_known, argument_open, grid_open, items_known}

-- ---- where no value is a key, none is found
neither : (p q : Bool) → (p || q) ≡ false → (p ≡ false) × (q ≡ false)
neither true q h = absurd (true≢false h)
neither false q h = (refl, h)

module _ (test : Value → Bool) (only_keys : (v : Value) → is_key v ≡ false → test v ≡ false) where
  none_passes : (vs : List Value) → list_any is_key vs ≡ false → position_or_len test vs ≡ length vs
  none_passes [] h = refl
  none_passes (v ∷ vs) h =
      let b = neither (is_key v) (list_any is_key vs) h in
      let r = none_passes vs b.1 in
      ap (λ t. cond (not t) (1 + position_or_len test vs) 0) (only_keys v b.0) ∙ omega (arith, r)

  no_place : (vs : List Value) → list_any is_key vs ≡ false → position test vs ≡ None
  no_place vs h =
      let e = none_passes vs h in
      let t : nat_lt (length vs) (length vs) ≡ false = grind (arith, nat_tests) in
      rw (e, t) refl

no_last : (n : ℕ) (vs : List Value) → list_any is_key vs ≡ false → last_place is_key (take n vs) ≡ None
no_last zero vs h = nothing vs
  where
    nothing : (vs : List Value) → last_place is_key (take 0 vs) ≡ None
    nothing [] = refl
    nothing (v ∷ vs) = refl
no_last (suc n) [] h = refl
no_last (suc n) (v ∷ vs) h =
    let b = neither (is_key v) (list_any is_key vs) h in
    ap₂ last_or_this b.0 (no_last n vs b.1)

no_equal : (key v : Value) → is_key v ≡ false → is_equal_to key v ≡ false
no_equal key v h = ap (λ b. b && Rattle.std.specs.Ordering.is_eq (Rattle.sheet_model.specs.Comparison.value_cmp v key)) h

pub nothing_found : (k : MatchKind) (key : Value) (vs : List Value) → list_any is_key vs ≡ false → found k key vs ≡ None
nothing_found Equal key vs h = no_place (is_equal_to key) (no_equal key) vs h
nothing_found Rising key vs h = no_last (position_or_len (is_greater_than key) vs) vs h
nothing_found Falling key vs h = no_last (position_or_len (is_less_than key) vs) vs h

-- what can't be a key isn't one under any assignment
pub keys_at : (x : Assignment) (items : List Abs) → list_any may_be_key items ≡ false → list_any is_key (map (abs_at x) items) ≡ false
keys_at x [] h = refl
keys_at x (Known v ∷ items) h = let b = neither (is_key v) (list_any may_be_key items) h in ap₂ ◌||◌ b.0 (keys_at x items b.1)
keys_at x (Affine f ∷ items) h = absurd (true≢false h)
keys_at x (Test f r ∷ items) h = absurd (true≢false h)

-- ---- picks
-- what a number that is asked for is under each assignment
pub data Asked (varies : Type 0) (number : Assignment → Result ℚ ErrorKind) : Wanted → Type 0 where
  asks_none : (k : ErrorKind) → ((x : Assignment) → number x ≡ Err k) → Asked varies number (none k)
  asks_form : (f : AffineForm) → ((x : Assignment) → number x ≡ Ok (worth x f)) → (constant_of f ≡ None → varies) → Asked varies number (form f)
  asks_test : ((x : Assignment) → (q : ℚ) × (number x ≡ Ok q)) → varies → Asked varies number open_test

number_varies : (b : Abs) (f : AffineForm) → IsForm f → ((x : Assignment) → number_in (abs_at x b) ≡ Ok (worth x f)) → constant_of f ≡ None → Varies (λ x. abs_at x b)
number_varies b f h d e =
    let o : IsOpen f = (h, open_is f e) in
    record {
      one = at_value f o zero_ℚ;
      other = at_value f o one_ℚ;
      differ = λ s.
          let q : ◌≡◌ {A = Result ℚ ErrorKind} (Ok (worth (at_value f o zero_ℚ) f)) (Ok (worth (at_value f o one_ℚ) f)) = sym (d (at_value f o zero_ℚ)) ∙ ap number_in s ∙ d (at_value f o one_ℚ) in
          zero_is_not_one (sym (at_value_worth f o zero_ℚ) ∙ ok_same _ _ q ∙ at_value_worth f o one_ℚ);
    }
  where
    ok_same : (p q : ℚ) → ◌≡◌ {A = Result ℚ ErrorKind} (Ok p) (Ok q) → p ≡ q
    ok_same p q e = cc

pub asked : (a : AbsArg) → (w : Wanted) → Fits (wanted.value_of a) w → Asked (Varies (λ x. arg_at x a)) (λ x. functions_numbers.number_of (arg_at x a)) w
asked a (none k) (is_none l d) = asks_none l (λ x. ap number_in (value_at x a) ∙ d x)
asked a (form f) (is_form g i u d) = asks_form g (λ x. ap number_in (value_at x a) ∙ d x) (λ e. argument_varies a (number_varies (wanted.value_of a) g i d e))
asked a open_test (is_open d v) = asks_test (λ x. ((d x).0, ap number_in (value_at x a) ∙ (d x).1)) (argument_varies a v)

pub asked_there : (args : List AbsArg) (i : ℕ) (a : AbsArg) → slice_get args i ≡ Some a → (number : Assignment → Result ℚ ErrorKind) (w : Wanted)
    → Asked (Varies (λ x. arg_at x a)) number w → Asked (ArgumentVaries arg_at args i) number w
asked_there args i a e number (none k) (asks_none l d) = asks_none l d
asked_there args i a e number (form f) (asks_form g d v) = asks_form g d (λ n. record { argument = a; is_there = e; varies = v n })
asked_there args i a e number open_test (asks_test d v) = asks_test d (record { argument = a; is_there = e; varies = v })

-- ---- the pick in a grid
abbrev grid_at : Assignment → Raster → Rectangle
grid_at x g = record { rows = g.rows; columns = g.columns; items = map (abs_at x) g.items }

pick_at : (x : Assignment) (g : Raster) (o : Option ℕ) → functions_lookups.pick_in (grid_at x g) o ≡ pick_in g o
pick_at x g None = refl
pick_at x g (Some i) = refl

module _ (args : List AbsArg) (g : Raster) (number : Assignment → Result ℚ ErrorKind) (b : Abs) (open_key : known_value b ≡ None → ArgumentVaries arg_at args 0)
    (open_keys : known_keys g.items ≡ None → ArgumentVaries arg_at args 1) where
  abbrev value : Assignment → Pick
  value x = pick_by (grid_at x g) (no_error (abs_at x b)) (number x)

  -- the key is no error
  module _ (fine : (x : Assignment) → no_error (abs_at x b) ≡ Ok (abs_at x b)) where
    value_is : (x : Assignment) (q : ℚ) → number x ≡ Ok q
        → value x ≡ (if (g.rows == 1) || (g.columns == 1) then functions_lookups.pick_in (grid_at x g) (found (kind_of q) (abs_at x b) (map (abs_at x) g.items)) else Fault kind.NotAvailable)
    value_is x q e = ap₂ (pick_by (grid_at x g)) (fine x) e

    value_none : (x : Assignment) (k : ErrorKind) → number x ≡ Err k → value x ≡ Fault k
    value_none x k e = ap₂ (pick_by (grid_at x g)) (fine x) e

    without_keys : (x : Assignment) (q : ℚ) → number x ≡ Ok q → (l : Bool) → ((g.rows == 1) || (g.columns == 1)) ≡ l → (l && list_any may_be_key g.items) ≡ false → value x ≡ Fault kind.NotAvailable
    without_keys x q e false d h = value_is x q e ∙ ap (λ l. if l then functions_lookups.pick_in (grid_at x g) (found (kind_of q) (abs_at x b) (map (abs_at x) g.items)) else Fault kind.NotAvailable) d
    without_keys x q e true d h =
        value_is x q e ∙ ap (λ l. if l then functions_lookups.pick_in (grid_at x g) (found (kind_of q) (abs_at x b) (map (abs_at x) g.items)) else Fault kind.NotAvailable) d
        ∙ ap (λ o. functions_lookups.pick_in (grid_at x g) o) (nothing_found (kind_of q) (abs_at x b) (map (abs_at x) g.items) (keys_at x g.items h))

    with_keys : (x : Assignment) (q y : ℚ) → number x ≡ Ok q → q ≡ y → ((g.rows == 1) || (g.columns == 1)) ≡ true → (key : Value) → known_value b ≡ Some key → (keys : List Value) → known_keys g.items ≡ Some keys
        → value x ≡ pick_in g (found (kind_of y) key keys)
    with_keys x q y e s d key k keys l =
        value_is x q e ∙ ap (λ l. if l then functions_lookups.pick_in (grid_at x g) (found (kind_of q) (abs_at x b) (map (abs_at x) g.items)) else Fault kind.NotAvailable) d
        ∙ pick_at x g (found (kind_of q) (abs_at x b) (map (abs_at x) g.items))
        ∙ ap (λ q. pick_in g (found (kind_of q) (abs_at x b) (map (abs_at x) g.items))) s
        ∙ ap₂ (λ v vs. pick_in g (found (kind_of y) v vs)) (value_known b key k x) (items_known g.items keys l x)

    in_line : (p q : Bool) → (p && q) ≡ true → p ≡ true
    in_line true q h = refl
    in_line false q h = absurd (true≢false (sym h))

    form_right : (f : AffineForm) → ((x : Assignment) → number x ≡ Ok (worth x f)) → (constant_of f ≡ None → ArgumentVaries arg_at args 2) → ((g.rows == 1) || (g.columns == 1)) ≡ true
        → (key : Option Value) → known_value b ≡ key → (keys : Option (List Value)) → known_keys g.items ≡ keys → IsPick value args (exact (by_keys g key keys (form f)))
    form_right f n v d None k keys l = open_key k
    form_right f n v d (Some key) k None l = open_keys l
    form_right f n v d (Some key) k (Some keys) l = by_constant (constant_of f) refl
      where
        by_constant : (c : Option ℚ) → constant_of f ≡ c → IsPick value args (exact (by_kind g key keys c))
        by_constant None e = v e
        by_constant (Some y) e = λ x. with_keys x (worth x f) y (n x) (constant_is f y e x) d key k keys l

    -- the key is found under no assignment
    never_there : (f : AffineForm) → ((x : Assignment) → number x ≡ Ok (worth x f)) → ((g.rows == 1) || (g.columns == 1)) ≡ true
        → (o : Option ℚ) → constant_of f ≡ o → (key : Option Value) → known_value b ≡ key → has_no_place o key g.items ≡ true → (x : Assignment) → value x ≡ Fault kind.NotAvailable
    never_there f n d None c key k h x = absurd (true≢false (sym h))
    never_there f n d (Some y) c None k h x = absurd (true≢false (sym h))
    never_there f n d (Some y) c (Some key) k h x =
        value_is x (worth x f) (n x) ∙ ap (λ l. if l then functions_lookups.pick_in (grid_at x g) (found (kind_of (worth x f)) (abs_at x b) (map (abs_at x) g.items)) else Fault kind.NotAvailable) d
        ∙ ap₂ (λ q v. functions_lookups.pick_in (grid_at x g) (found (kind_of q) v (map (abs_at x) g.items))) (constant_is f y c x) (value_known b key k x)
        ∙ ap (functions_lookups.pick_in (grid_at x g)) (never_found_right x (kind_of y) key g.items h)

    places_right : (f : AffineForm) → ((x : Assignment) → number x ≡ Ok (worth x f)) → (constant_of f ≡ None → ArgumentVaries arg_at args 2) → ((g.rows == 1) || (g.columns == 1)) ≡ true
        → IsPick value args (exact (by_places g (known_value b) (form f)))
    places_right f n v d = by_place (has_no_place (constant_of f) (known_value b) g.items) refl
      where
        by_place : (c : Bool) → has_no_place (constant_of f) (known_value b) g.items ≡ c
            → IsPick value args (exact (if c then given (Fault kind.NotAvailable) else by_keys g (known_value b) (known_keys g.items) (form f)))
        by_place true e = never_there f n d (constant_of f) refl (known_value b) refl e
        by_place false e = form_right f n v d (known_value b) refl (known_keys g.items) refl

    by_test : (w : Wanted) → Asked (ArgumentVaries arg_at args 2) number w → ((k : ErrorKind) → w ≡ none k → ⊥) → (c : Bool) → (((g.rows == 1) || (g.columns == 1)) && list_any may_be_key g.items) ≡ c
        → IsPick value args (exact (if c then by_places g (known_value b) w else given (Fault kind.NotAvailable)))
    by_test (none k) a n c h = absurd (n k refl)
    by_test (form f) (asks_form g' d v) n false h = λ x. without_keys x (worth x g') (d x) ((g.rows == 1) || (g.columns == 1)) refl h
    by_test (form f) (asks_form g' d v) n true h = places_right g' d v (in_line _ _ h)
    by_test open_test (asks_test d v) n false h = λ x. without_keys x (d x).0 (d x).1 ((g.rows == 1) || (g.columns == 1)) refl h
    by_test open_test (asks_test d v) n true h = v

    abbrev beyond : Wanted → Trial Pick
    beyond w = if ((g.rows == 1) || (g.columns == 1)) && list_any may_be_key g.items then by_places g (known_value b) w else given (Fault kind.NotAvailable)

    form_beyond : (f : AffineForm) → Asked (ArgumentVaries arg_at args 2) number (form f) → IsPick value args (exact (beyond (form f)))
    form_beyond f a = by_test (form f) a (λ k e. no_form f k e) (((g.rows == 1) || (g.columns == 1)) && list_any may_be_key g.items) refl
      where
        no_form : (f : AffineForm) (k : ErrorKind) → form f ≡ none k → ⊥
        no_form f k e = cc

    test_beyond : Asked (ArgumentVaries arg_at args 2) number open_test → IsPick value args (exact (beyond open_test))
    test_beyond a = by_test open_test a (λ k e. no_test k e) (((g.rows == 1) || (g.columns == 1)) && list_any may_be_key g.items) refl
      where
        no_test : (k : ErrorKind) → open_test ≡ none k → ⊥
        no_test k e = cc

    none_beyond : (k : ErrorKind) → Asked (ArgumentVaries arg_at args 2) number (none k) → IsPick value args (Ok (Fault k))
    none_beyond k (asks_none l d) = λ x. value_none x l (d x)

module _ (args : List AbsArg) (g : Raster) (number : Assignment → Result ℚ ErrorKind) (open_keys : known_keys g.items ≡ None → ArgumentVaries arg_at args 1) where
  pub lookup_right : (b : Abs) → (known_value b ≡ None → ArgumentVaries arg_at args 0) → (w : Wanted) → Asked (ArgumentVaries arg_at args 2) number w
      → IsPick (λ x. pick_by (grid_at x g) (no_error (abs_at x b)) (number x)) args (exact (lookup_form g b w))
  lookup_right (Known (Error k)) o w a = λ x. refl
  lookup_right (Known (Number y)) o (none k) a = none_beyond args g number (Known (Number y)) o open_keys (λ x. refl) k a
  lookup_right (Known (Number y)) o (form f) a = form_beyond args g number (Known (Number y)) o open_keys (λ x. refl) f a
  lookup_right (Known (Number y)) o open_test a = test_beyond args g number (Known (Number y)) o open_keys (λ x. refl) a
  lookup_right (Known (Text y)) o (none k) a = none_beyond args g number (Known (Text y)) o open_keys (λ x. refl) k a
  lookup_right (Known (Text y)) o (form f) a = form_beyond args g number (Known (Text y)) o open_keys (λ x. refl) f a
  lookup_right (Known (Text y)) o open_test a = test_beyond args g number (Known (Text y)) o open_keys (λ x. refl) a
  lookup_right (Known (Logical y)) o (none k) a = none_beyond args g number (Known (Logical y)) o open_keys (λ x. refl) k a
  lookup_right (Known (Logical y)) o (form f) a = form_beyond args g number (Known (Logical y)) o open_keys (λ x. refl) f a
  lookup_right (Known (Logical y)) o open_test a = test_beyond args g number (Known (Logical y)) o open_keys (λ x. refl) a
  lookup_right (Known Empty) o (none k) a = none_beyond args g number (Known Empty) o open_keys (λ x. refl) k a
  lookup_right (Known Empty) o (form f) a = form_beyond args g number (Known Empty) o open_keys (λ x. refl) f a
  lookup_right (Known Empty) o open_test a = test_beyond args g number (Known Empty) o open_keys (λ x. refl) a
  lookup_right (Affine h) o (none k) a = none_beyond args g number (Affine h) o open_keys (λ x. refl) k a
  lookup_right (Affine h) o (form f) a = form_beyond args g number (Affine h) o open_keys (λ x. refl) f a
  lookup_right (Affine h) o open_test a = test_beyond args g number (Affine h) o open_keys (λ x. refl) a
  lookup_right (Test h r) o (none k) a = none_beyond args g number (Test h r) o open_keys (λ x. refl) k a
  lookup_right (Test h r) o (form f) a = form_beyond args g number (Test h r) o open_keys (λ x. refl) f a
  lookup_right (Test h r) o open_test a = test_beyond args g number (Test h r) o open_keys (λ x. refl) a

-- ---- the arguments
same_grid : (x : Assignment) (a : AbsArg) → functions.grid_of (arg_at x a) ≡ grid_at x (grid_of a)
same_grid x (One a) = refl
same_grid x (Area g) = refl

module _ (key keys : AbsArg) (rest : List AbsArg) (sound : IsSound key) (fine : IsSound keys) where
  abbrev args : List AbsArg
  args = key ∷ keys ∷ rest

  key_open : known_value (wanted.value_of key) ≡ None → ArgumentVaries arg_at args 0
  key_open e = record { argument = key; is_there = refl; varies = argument_open key sound e }

  keys_open : known_keys (grid_of keys).items ≡ None → ArgumentVaries arg_at args 1
  keys_open e = record { argument = keys; is_there = refl; varies = grid_open keys fine e }

  same_pick : (value : Assignment → Pick) (other : Assignment → Pick) → ((x : Assignment) → value x ≡ other x) → (r : Result Pick Refusal) → IsPick other args r → IsPick value args r
  same_pick value other e r h = subst (λ (v : Assignment → Pick). IsPick v args r) (λ i x. sym (e x) i) h

  picks_right : (number : Assignment → Result ℚ ErrorKind) (w : Wanted) → Asked (ArgumentVaries arg_at args 2) number w
      → IsPick (λ x. lookup_pick (arg_at x key) (arg_at x keys) (number x)) args (exact (lookup_pick_form key keys w))
  picks_right number w a =
      same_pick (λ x. lookup_pick (arg_at x key) (arg_at x keys) (number x)) (λ x. pick_by (grid_at x (grid_of keys)) (no_error (abs_at x (wanted.value_of key))) (number x))
      (λ x. ap₂ (λ g v. pick_by g (no_error v) (number x)) (same_grid x keys) (value_at x key)) (exact (lookup_pick_form key keys w))
      (lookup_right args (grid_of keys) number keys_open (wanted.value_of key) key_open w a)

  by_pick : (value : Assignment → Pick) (c : Trial Pick) → IsPick value args (exact c) → IsRightArg (λ x. arg.One (place_value (value x))) args (exact (and_then c (λ p. given (One (Known (place_value p))))))
  by_pick value c h = subst (IsRightArg (λ x. arg.One (place_value (value x))) args) (sym (exact-and_then c (λ p. given (One (Known (place_value p)))))) (by_result (exact c) h)
    where
      by_result : (r : Result Pick Refusal) → IsPick value args r → IsRightArg (λ x. arg.One (place_value (value x))) args (exact (on_given r (λ p. given (One (Known (place_value p))))))
      by_result (Ok p) h = λ x. ap (λ p. arg.One (place_value p)) (h x)
      by_result (Err Breaks) h = absurd h
      by_result (Err (Undecided i)) h = h

pub match_right : (args : List AbsArg) → AllByRecursion IsSound args → IsRightArg (λ x. exact (match_of (map (arg_at x) args))) args (exact (match_form args))
match_right [] h = λ x. refl
match_right (a ∷ []) h = λ x. refl
match_right (key ∷ keys ∷ []) h =
    by_pick key keys [] h.0 h.1.0 (λ x. lookup_pick (arg_at x key) (arg_at x keys) (Ok (whole_ℚ (pos 1)))) (match_pick (key ∷ keys ∷ []))
    (picks_right key keys [] h.0 h.1.0 (λ x. Ok (whole_ℚ (pos 1))) (form (constant_form (whole_ℚ (pos 1)))) (asks_form (constant_form (whole_ℚ (pos 1))) (λ x. ap Ok (sym (constant_worth x (whole_ℚ (pos 1))))) (λ e. no_none e)))
  where
    no_none : {B : Type 0} → Some (whole_ℚ (pos 1)) ≡ None → B
    no_none e = cc
match_right (key ∷ keys ∷ a ∷ []) h =
    by_pick key keys (a ∷ []) h.0 h.1.0 (λ x. lookup_pick (arg_at x key) (arg_at x keys) (functions_numbers.number_of (arg_at x a))) (match_pick (key ∷ keys ∷ a ∷ []))
    (picks_right key keys (a ∷ []) h.0 h.1.0 (λ x. functions_numbers.number_of (arg_at x a)) (number_of a)
    (asked_there (key ∷ keys ∷ a ∷ []) 2 a refl (λ x. functions_numbers.number_of (arg_at x a)) (number_of a) (asked a (number_of a) (fits (wanted.value_of a) (value_sound a h.1.1.0)))))
match_right (key ∷ keys ∷ a ∷ b ∷ others) h = λ x. refl

pub found_is_right : FoundIsRight
found_is_right key keys kind =
    picks_right key keys (kind ∷ []) (arg_sound key) (arg_sound keys) (λ x. functions_numbers.number_of (arg_at x kind)) (number_of kind)
    (asked_there (key ∷ keys ∷ kind ∷ []) 2 kind refl (λ x. functions_numbers.number_of (arg_at x kind)) (number_of kind) (asked kind (number_of kind) (fits (wanted.value_of kind) (abs_sound (wanted.value_of kind)))))
