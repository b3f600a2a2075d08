-- The record that VLOOKUP finds under an assignment.
use Rattle.std.specs.Prelude.{◌-◌, ◌||◌, ◌&&◌, not, ℤ, negsuc, int_le}
use Rattle.std.specs.List.{list_all, list_any}
use Rattle.std.specs.Result.{result_map_both}
use Rattle.std.proofs.Common.{◌≡◌, refl, sym, ap, ap₂, ◌∙◌, subst, Bool, true, false, true≢false, if◌then◌else◌, List, [], ◌∷◌, map, Option, Some, None, Result, Ok, Err, ℕ, pos}
use Rattle.std.proofs.lemmas.Bool.{and_parts}
use Rattle.fractions.specs.Rational.{ℚ}
use Rattle.fractions.specs.Floor.{floor_ℚ}
use Rattle.calculations.specs.Calculation.{exact}
use Rattle.cell_refs.specs.declared.error_kind.ErrorKind.{ErrorKind}
use Rattle.cell_refs.specs.declared.error_kind.ErrorKind.TheVariants as kind
use Rattle.sheet_model.specs.Conversions.{number_in, logical_in}
use Rattle.sheet_model.specs.Grids.{Rectangle}
use Rattle.sheet_model.specs.declared.value.Value.{Value}
use Rattle.sheet_model.specs.declared.value.Value.TheVariants.{Number, Text, Logical, Empty, Error}
use Rattle.sheet_model.specs.declared.grid.Arg.{Arg}
use Rattle.sheet_model.specs.declared.grid.Arg.TheVariants as arg
use Rattle.sheet_funcs.specs.Arguments.{no_error, on_ok, answered, column_of}
use Rattle.sheet_funcs.specs.Lookups.{found, is_sorted}
use Rattle.sheet_funcs.specs.declared.lookups.MatchKind.{MatchKind}
use Rattle.sheet_funcs.specs.declared.lookups.MatchKind.TheVariants.{Equal, Rising}
use Rattle.affine_forms.specs.Forms.{Assignment, AffineForm, worth}
use Rattle.form_values.specs.Meaning.{abs_at, arg_at}
use Rattle.form_values.specs.Trials.{Trial, Refusal}
use Rattle.form_values.specs.declared.abs.Abs.{Abs}
use Rattle.form_values.specs.declared.abs.Abs.TheVariants.{Known, Affine, Test}
use Rattle.form_values.specs.declared.abs.AbsArg.{AbsArg}
use Rattle.form_table.specs.Wanted.{Wanted, form, open_test, none as no_number, known_number}
use Rattle.form_values.specs.Known.{is_known}
use Rattle.form_table.specs.Wanted as wanted
use Rattle.form_table.specs.Lookups.{may_be_key, known_value, known_keys, kinds_by, kinds_of, kinds_in, from_one, field_at, is_never_found, is_missing, at_record, by_record, in_field, open_field, by_field, record_form}
use Rattle.form_truth.specs.Picks.{read}
use Rattle.form_truth.proofs.Arguments.{value_at}
use Rattle.form_truth.proofs.Ended.{never_found_right}
use Rattle.form_truth.proofs.Fitting.{Fits, is_none as is_error, is_form, is_open, constant_is}
use Rattle.form_truth.proofs.LookupSteps.{element_or, looked_up}
use Rattle.form_truth.proofs.Matching.{nothing_found, keys_at}
use Rattle.form_truth.proofs.Varying.{value_known, items_known}

-- ---- a place
module _ (x : Assignment) where
  abbrev pub place : Abs → Result ℤ ErrorKind
  place b = result_map_both floor_ℚ (λ k. k) (number_in (abs_at x b))

  -- it is a whole number, unless it is an error
  some_place : (b : Abs) (w : Wanted) → Fits b w → ((k : ErrorKind) → w ≡ no_number k → ⊥) → (n : ℤ) × (place b ≡ Ok n)
  some_place b (no_number k) f n = absurd (n k refl)
  some_place b (form f) (is_form g i u d) n = (floor_ℚ (worth x g), ap (result_map_both floor_ℚ (λ k. k)) (d x))
  some_place b open_test (is_open d v) n = (floor_ℚ (d x).0, ap (result_map_both floor_ℚ (λ k. k)) (d x).1)

  pub place_known : (b : Abs) (w : Wanted) → Fits b w → (y : ℚ) → known_number w ≡ Some y → place b ≡ Ok (floor_ℚ y)
  place_known b (no_number k) (is_error l d) y e = cc
  place_known b (form f) (is_form g i u d) y e = ap (result_map_both floor_ℚ (λ k. k)) (d x) ∙ ap (λ w. Ok (floor_ℚ w)) (constant_is g y e x)
  place_known b open_test (is_open d v) y e = cc

-- ---- sorted or not
abbrev kind_by : Bool → MatchKind
kind_by b = if b then Rising else Equal

-- the kind of search that a logical asks for is among some, or there are both
pub data Among (b : Bool) : List MatchKind → Type 0 where
  alone : Among b (kind_by b ∷ [])
  both_kinds : Among b (Equal ∷ Rising ∷ [])

module _ (x : Assignment) where
  pub record Sorted (rest : List AbsArg) (kinds : List MatchKind) : Type 0 where
    pub answer : Bool
    pub is : is_sorted (map (arg_at x) rest) ≡ Ok answer
    pub among : Among answer kinds

  -- of the last argument
  kinds_right : (b : Abs) (kinds : List MatchKind) → kinds_of b ≡ Ok kinds → (s : Bool) × (logical_in (abs_at x b) ≡ Ok s) × Among s kinds
  kinds_right (Known v) kinds e = by_logical (logical_in v) refl e
    where
      by_logical : (r : Result Bool ErrorKind) → logical_in v ≡ r → kinds_by r ≡ Ok kinds → (s : Bool) × (logical_in v ≡ Ok s) × Among s kinds
      by_logical (Ok s) d e = let q : kind_by s ∷ [] ≡ kinds = cc in (s, d, subst (Among s) q alone)
      by_logical (Err k) d e = cc
  kinds_right (Affine f) kinds e = let q : Equal ∷ Rising ∷ [] ≡ kinds = cc in (_, refl, subst (Among _) q both_kinds)
  kinds_right (Test f r) kinds e = let q : Equal ∷ Rising ∷ [] ≡ kinds = cc in (_, refl, subst (Among _) q both_kinds)

  kinds_fail : (b : Abs) (k : ErrorKind) → kinds_of b ≡ Err k → logical_in (abs_at x b) ≡ Err k
  kinds_fail (Known v) k e = by_logical (logical_in v) refl e
    where
      by_logical : (r : Result Bool ErrorKind) → logical_in v ≡ r → kinds_by r ≡ Err k → logical_in v ≡ Err k
      by_logical (Ok s) d e = cc
      by_logical (Err l) d e = cc
  kinds_fail (Affine f) k e = cc
  kinds_fail (Test f r) k e = cc

  pub sorted_right : (rest : List AbsArg) (kinds : List MatchKind) → kinds_in rest ≡ Ok kinds → Sorted rest kinds
  sorted_right [] kinds e = let q : Rising ∷ [] ≡ kinds = cc in record { answer = true; is = refl; among = subst (Among true) q alone }
  sorted_right (a ∷ rest) kinds e =
      let r = kinds_right (wanted.value_of a) kinds e in
      record { answer = r.0; is = ap logical_in (value_at x a) ∙ r.1; among = r.2 }

  sorted_fails : (rest : List AbsArg) (k : ErrorKind) → kinds_in rest ≡ Err k → is_sorted (map (arg_at x) rest) ≡ Err k
  sorted_fails [] k e = cc
  sorted_fails (a ∷ rest) k e = ap logical_in (value_at x a) ∙ kinds_fail (wanted.value_of a) k e

  -- ---- what is looked up
  ok_same : (p q : Result (ℕ × ℕ) ErrorKind) → ◌≡◌ {A = Result (Result (ℕ × ℕ) ErrorKind) Refusal} (Ok p) (Ok q) → p ≡ q
  ok_same p q e = cc

  module _ (g : Rectangle) (fields : ℕ) (same : fields ≡ g.columns) (keys : List Abs) (column : column_of g 0 ≡ map (abs_at x) keys) (b : Abs) where
    -- none of some kinds of search finds the key
    none_of : (key : Value) (s : Bool) (kinds : List MatchKind) → Among s kinds → list_all (λ kind. is_never_found kind key keys) kinds ≡ true → found (kind_by s) key (map (abs_at x) keys) ≡ None
    none_of key s kinds alone h = never_found_right x (kind_by s) key keys (and_parts (is_never_found (kind_by s) key keys) true h).0
    none_of key s kinds both_kinds h =
        let p = and_parts (is_never_found Equal key keys) (is_never_found Rising key keys && true) h in
        by_kind s p.0 (and_parts (is_never_found Rising key keys) true p.1).0
      where
        by_kind : (s : Bool) → is_never_found Equal key keys ≡ true → is_never_found Rising key keys ≡ true → found (kind_by s) key (map (abs_at x) keys) ≡ None
        by_kind true p q = never_found_right x Rising key keys q
        by_kind false p q = never_found_right x Equal key keys p

    missing : (s : Bool) (kinds : List MatchKind) → Among s kinds → (key : Option Value) → known_value b ≡ key → is_missing key keys kinds ≡ true → found (kind_by s) (abs_at x b) (column_of g 0) ≡ None
    missing s kinds a None e h = absurd (true≢false (sym h))
    missing s kinds a (Some key) e h = ap₂ (found (kind_by s)) (value_known b key e x) column ∙ none_of key s kinds a h

    certainly_none : (s : Bool) (kinds : List MatchKind) → Among s kinds → (some : Bool) → list_any may_be_key keys ≡ some → (not some || is_missing (known_value b) keys kinds) ≡ true
        → found (kind_by s) (abs_at x b) (column_of g 0) ≡ None
    certainly_none s kinds a false e h = ap (found (kind_by s) (abs_at x b)) column ∙ nothing_found (kind_by s) (abs_at x b) (map (abs_at x) keys) (keys_at x keys e)
    certainly_none s kinds a true e h = missing s kinds a (known_value b) refl h

    -- one kind of search, in a field that there is
    at_found : (n : ℕ) (o : Option ℕ) → element_or g (pos n) o ≡ read g (at_record (n - 1) o)
    at_found n None = refl
    at_found n (Some row) = refl

    by_record_right : (n : ℕ) (s : Bool) (kinds : List MatchKind) → Among s kinds → (key : Option Value) → known_value b ≡ key → (vs : Option (List Value)) → known_keys keys ≡ vs
        → (r : Result (ℕ × ℕ) ErrorKind) → exact (by_record (n - 1) key vs kinds) ≡ Ok r → element_or g (pos n) (found (kind_by s) (abs_at x b) (column_of g 0)) ≡ read g r
    by_record_right n s kinds a None e vs d r h = cc
    by_record_right n s kinds a (Some key) e None d r h = cc
    by_record_right n s kinds alone (Some key) e (Some vs) d r h =
        ap (element_or g (pos n)) (ap₂ (found (kind_by s)) (value_known b key e x) (column ∙ items_known keys vs d x)) ∙ at_found n (found (kind_by s) key vs) ∙ ap (read g) (ok_same _ r h)
    by_record_right n s kinds both_kinds (Some key) e (Some vs) d r h = cc

    by_missing : (n : ℕ) (s : Bool) (kinds : List MatchKind) → Among s kinds → (c : Bool) → (not (list_any may_be_key keys) || is_missing (known_value b) keys kinds) ≡ c
        → (r : Result (ℕ × ℕ) ErrorKind)
        → exact (if c then Rattle.form_values.specs.Trials.given (Err kind.NotAvailable) else by_record (n - 1) (known_value b) (known_keys keys) kinds) ≡ Ok r
        → element_or g (pos n) (found (kind_by s) (abs_at x b) (column_of g 0)) ≡ read g r
    by_missing n s kinds a true e r h = ap (element_or g (pos n)) (certainly_none s kinds a (list_any may_be_key keys) refl e) ∙ ap (read g) (ok_same (Err kind.NotAvailable) r h)
    by_missing n s kinds a false e r h = by_record_right n s kinds a (known_value b) refl (known_keys keys) refl r h

    looked : (n : ℤ) (s : Bool) (kinds : List MatchKind) → Among s kinds → (r : Result (ℕ × ℕ) ErrorKind) → exact (in_field (field_at fields n) b keys kinds) ≡ Ok r → looked_up g (abs_at x b) n s ≡ read g r
    looked n s kinds a r h =
        ap (λ c. if int_le n (pos 0) then Error kind.Value else if int_le n (pos c) then element_or g n (found (kind_by s) (abs_at x b) (column_of g 0)) else Error kind.Ref) (sym same)
        ∙ by_place n (int_le n (pos 0)) refl (int_le n (pos fields)) h
      where
        by_place : (n : ℤ) (p : Bool) → int_le n (pos 0) ≡ p → (q : Bool) → exact (in_field (if p then Err kind.Value else if q then Ok (from_one n) else Err kind.Ref) b keys kinds) ≡ Ok r
            → (if p then Error kind.Value else if q then element_or g n (found (kind_by s) (abs_at x b) (column_of g 0)) else Error kind.Ref) ≡ read g r
        by_place n true e q h = ap (read g) (ok_same (Err kind.Value) r h)
        by_place n false e false h = ap (read g) (ok_same (Err kind.Ref) r h)
        by_place (pos n) false e true h = by_missing n s kinds a (not (list_any may_be_key keys) || is_missing (known_value b) keys kinds) refl r h
        by_place (negsuc n) false e true h = absurd (true≢false e)

    never_open : (w : Wanted) (r : Result (ℕ × ℕ) ErrorKind) → ((k : ErrorKind) → w ≡ no_number k → ⊥) → exact (open_field w b keys) ≡ Ok r → ⊥
    never_open (no_number k) r n h = n k refl
    never_open open_test r n h = cc
    never_open (form f) r n h = by_tests (not (is_known b)) (not (list_all is_known keys)) h
      where
        by_tests : (p q : Bool)
            → exact (if p then Rattle.form_values.specs.Trials.undecided {A = Result (ℕ × ℕ) ErrorKind} 0 else if q then Rattle.form_values.specs.Trials.undecided 1 else Rattle.form_values.specs.Trials.undecided 2) ≡ Ok r → ⊥
        by_tests true q h = cc
        by_tests false true h = cc
        by_tests false false h = cc

    -- all that precedes is no error
    module _ (fine : no_error (abs_at x b) ≡ Ok (abs_at x b)) (c : Abs) (rest : List AbsArg) where
      abbrev value : Value → Arg
      value v = exact (on_ok (no_error v) (λ k. on_ok (place x c) (λ n. on_ok (is_sorted (map (arg_at x) rest)) (λ s. answered (looked_up g k n s)))))

      past_key : value (abs_at x b) ≡ exact (on_ok (place x c) (λ n. on_ok (is_sorted (map (arg_at x) rest)) (λ s. answered (looked_up g (abs_at x b) n s))))
      past_key = ap (λ v. exact (on_ok v (λ k. on_ok (place x c) (λ n. on_ok (is_sorted (map (arg_at x) rest)) (λ s. answered (looked_up g k n s)))))) fine

      past_place : (n : ℤ) → place x c ≡ Ok n → value (abs_at x b) ≡ exact (on_ok (is_sorted (map (arg_at x) rest)) (λ s. answered (looked_up g (abs_at x b) n s)))
      past_place n e = past_key ∙ ap (λ r. exact (on_ok r (λ n. on_ok (is_sorted (map (arg_at x) rest)) (λ s. answered (looked_up g (abs_at x b) n s))))) e

      place_fails : (k : ErrorKind) → number_in (abs_at x c) ≡ Err k → value (abs_at x b) ≡ arg.One (Error k)
      place_fails k e = past_key ∙ ap (λ r. exact (on_ok (result_map_both floor_ℚ (λ k. k) r) (λ n. on_ok (is_sorted (map (arg_at x) rest)) (λ s. answered (looked_up g (abs_at x b) n s))))) e

      by_number : (w : Wanted) → Fits c w → ((k : ErrorKind) → w ≡ no_number k → ⊥) → (kinds : Result (List MatchKind) ErrorKind) → kinds_in rest ≡ kinds → (r : Result (ℕ × ℕ) ErrorKind)
          → ((k : ErrorKind) → kinds ≡ Err k → Err k ≡ r) → ((ks : List MatchKind) → kinds ≡ Ok ks → exact (by_field (known_number w) fields w b keys ks) ≡ Ok r)
          → value (abs_at x b) ≡ arg.One (read g r)
      by_number w f n (Err k) e r bad good =
          let p = some_place x c w f n in
          past_place p.0 p.1 ∙ ap (λ s. exact (on_ok s (λ s. answered (looked_up g (abs_at x b) p.0 s)))) (sorted_fails rest k e) ∙ ap (λ r. arg.One (read g r)) (bad k refl)
      by_number w f n (Ok ks) e r bad good = by_known (known_number w) refl (good ks refl)
        where
          by_known : (o : Option ℚ) → known_number w ≡ o → exact (by_field o fields w b keys ks) ≡ Ok r → value (abs_at x b) ≡ arg.One (read g r)
          by_known None d h = absurd (never_open w r n h)
          by_known (Some y) d h =
              let s = sorted_right rest ks e in
              past_place (floor_ℚ y) (place_known x c w f y d) ∙ ap (λ s. exact (on_ok s (λ s. answered (looked_up g (abs_at x b) (floor_ℚ y) s)))) s.is
              ∙ ap arg.One (looked (floor_ℚ y) s.answer ks s.among r h)

    -- the whole row
    module _ (c : Abs) (rest : List AbsArg) where
      abbrev outcome : Value → Arg
      outcome v = exact (on_ok (no_error v) (λ k. on_ok (place x c) (λ n. on_ok (is_sorted (map (arg_at x) rest)) (λ s. answered (looked_up g k n s)))))

      kind_bad : (k : ErrorKind) (r : Result (ℕ × ℕ) ErrorKind) (kinds : Result (List MatchKind) ErrorKind) → ((k : ErrorKind) → kinds ≡ Err k → Err k ≡ r) → kinds ≡ Err k → Err k ≡ r
      kind_bad k r kinds h e = h k e

      form_number : (f : AffineForm) (k : ErrorKind) → form f ≡ no_number k → ⊥
      form_number f k e = cc

      test_number : (k : ErrorKind) → open_test ≡ no_number k → ⊥
      test_number k e = cc

      err_same : (k : ErrorKind) (r : Result (ℕ × ℕ) ErrorKind) → ◌≡◌ {A = Result (Result (ℕ × ℕ) ErrorKind) Refusal} (Ok (Err k)) (Ok r) → Err k ≡ r
      err_same k r e = cc

      -- where the key is no error, what the row gives by the field and the kinds
      abbrev behind_key : Wanted → Result (List MatchKind) ErrorKind → Trial (Result (ℕ × ℕ) ErrorKind)
      behind_key (no_number k) kinds = Rattle.form_values.specs.Trials.given (Err k)
      behind_key w (Err k) = Rattle.form_values.specs.Trials.given (Err k)
      behind_key w (Ok kinds) = by_field (known_number w) fields w b keys kinds

      behind_right : no_error (abs_at x b) ≡ Ok (abs_at x b) → (w : Wanted) → Fits c w → (kinds : Result (List MatchKind) ErrorKind) → kinds_in rest ≡ kinds → (r : Result (ℕ × ℕ) ErrorKind)
          → exact (behind_key w kinds) ≡ Ok r → outcome (abs_at x b) ≡ arg.One (read g r)
      behind_right fine (no_number k) (is_error l d) kinds e r h = place_fails fine c rest l (d x) ∙ ap (λ r. arg.One (read g r)) (err_same l r h)
      behind_right fine (form f) i (Err k) e r h = by_number fine c rest (form f) i (form_number f) (Err k) e r (λ l s. same_error k l r s (err_same k r h)) (λ ks s. no_kinds k ks s)
        where
          same_error : (k l : ErrorKind) (r : Result (ℕ × ℕ) ErrorKind) → ◌≡◌ {A = Result (List MatchKind) ErrorKind} (Err k) (Err l) → Err k ≡ r → Err l ≡ r
          same_error k l r s e = let t : k ≡ l = cc in subst (λ m. Err m ≡ r) t e

          no_kinds : {B : Type 0} (k : ErrorKind) (ks : List MatchKind) → ◌≡◌ {A = Result (List MatchKind) ErrorKind} (Err k) (Ok ks) → B
          no_kinds k ks s = cc
      behind_right fine open_test i (Err k) e r h = by_number fine c rest open_test i test_number (Err k) e r (λ l s. same_error k l r s (err_same k r h)) (λ ks s. no_kinds k ks s)
        where
          same_error : (k l : ErrorKind) (r : Result (ℕ × ℕ) ErrorKind) → ◌≡◌ {A = Result (List MatchKind) ErrorKind} (Err k) (Err l) → Err k ≡ r → Err l ≡ r
          same_error k l r s e = let t : k ≡ l = cc in subst (λ m. Err m ≡ r) t e

          no_kinds : {B : Type 0} (k : ErrorKind) (ks : List MatchKind) → ◌≡◌ {A = Result (List MatchKind) ErrorKind} (Err k) (Ok ks) → B
          no_kinds k ks s = cc
      behind_right fine (form f) i (Ok ks) e r h = by_number fine c rest (form f) i (form_number f) (Ok ks) e r (λ l s. no_error_there ks l s) (λ ls s. subst (λ ks. exact (by_field (known_number (form f)) fields (form f) b keys ks) ≡ Ok r) (kinds_same ks ls s) h)
        where
          no_error_there : {B : Type 0} (ks : List MatchKind) (l : ErrorKind) → ◌≡◌ {A = Result (List MatchKind) ErrorKind} (Ok ks) (Err l) → B
          no_error_there ks l s = cc

          kinds_same : (ks ls : List MatchKind) → ◌≡◌ {A = Result (List MatchKind) ErrorKind} (Ok ks) (Ok ls) → ks ≡ ls
          kinds_same ks ls s = cc
      behind_right fine open_test i (Ok ks) e r h = by_number fine c rest open_test i test_number (Ok ks) e r (λ l s. no_error_there ks l s) (λ ls s. subst (λ ks. exact (by_field (known_number open_test) fields open_test b keys ks) ≡ Ok r) (kinds_same ks ls s) h)
        where
          no_error_there : {B : Type 0} (ks : List MatchKind) (l : ErrorKind) → ◌≡◌ {A = Result (List MatchKind) ErrorKind} (Ok ks) (Err l) → B
          no_error_there ks l s = cc

          kinds_same : (ks ls : List MatchKind) → ◌≡◌ {A = Result (List MatchKind) ErrorKind} (Ok ks) (Ok ls) → ks ≡ ls
          kinds_same ks ls s = cc

  pub record_right : (g : Rectangle) (fields : ℕ) (same : fields ≡ g.columns) (keys : List Abs) (column : column_of g 0 ≡ map (abs_at x) keys) (b c : Abs) (rest : List AbsArg)
      (w : Wanted) → Fits c w → (kinds : Result (List MatchKind) ErrorKind) → kinds_in rest ≡ kinds → (r : Result (ℕ × ℕ) ErrorKind) → exact (record_form fields keys b w kinds) ≡ Ok r
      → exact (on_ok (no_error (abs_at x b)) (λ k. on_ok (place x c) (λ n. on_ok (is_sorted (map (arg_at x) rest)) (λ s. answered (looked_up g k n s))))) ≡ arg.One (read g r)
  record_right g fields same keys column (Known (Error k)) c rest w i kinds e r h = ap (λ r. arg.One (read g r)) (error_same k r h)
    where
      error_same : (k : ErrorKind) (r : Result (ℕ × ℕ) ErrorKind) → ◌≡◌ {A = Result (Result (ℕ × ℕ) ErrorKind) Refusal} (Ok (Err k)) (Ok r) → Err k ≡ r
      error_same k r e = cc
  record_right g fields same keys column (Known (Number y)) c rest (no_number k) i kinds e r h = behind_right g fields same keys column (Known (Number y)) c rest refl (no_number k) i kinds e r h
  record_right g fields same keys column (Known (Number y)) c rest (form u) i (Err m) e r h = behind_right g fields same keys column (Known (Number y)) c rest refl (form u) i (Err m) e r h
  record_right g fields same keys column (Known (Number y)) c rest (form u) i (Ok ks) e r h = behind_right g fields same keys column (Known (Number y)) c rest refl (form u) i (Ok ks) e r h
  record_right g fields same keys column (Known (Number y)) c rest open_test i (Err m) e r h = behind_right g fields same keys column (Known (Number y)) c rest refl open_test i (Err m) e r h
  record_right g fields same keys column (Known (Number y)) c rest open_test i (Ok ks) e r h = behind_right g fields same keys column (Known (Number y)) c rest refl open_test i (Ok ks) e r h
  record_right g fields same keys column (Known (Text y)) c rest (no_number k) i kinds e r h = behind_right g fields same keys column (Known (Text y)) c rest refl (no_number k) i kinds e r h
  record_right g fields same keys column (Known (Text y)) c rest (form u) i (Err m) e r h = behind_right g fields same keys column (Known (Text y)) c rest refl (form u) i (Err m) e r h
  record_right g fields same keys column (Known (Text y)) c rest (form u) i (Ok ks) e r h = behind_right g fields same keys column (Known (Text y)) c rest refl (form u) i (Ok ks) e r h
  record_right g fields same keys column (Known (Text y)) c rest open_test i (Err m) e r h = behind_right g fields same keys column (Known (Text y)) c rest refl open_test i (Err m) e r h
  record_right g fields same keys column (Known (Text y)) c rest open_test i (Ok ks) e r h = behind_right g fields same keys column (Known (Text y)) c rest refl open_test i (Ok ks) e r h
  record_right g fields same keys column (Known (Logical y)) c rest (no_number k) i kinds e r h = behind_right g fields same keys column (Known (Logical y)) c rest refl (no_number k) i kinds e r h
  record_right g fields same keys column (Known (Logical y)) c rest (form u) i (Err m) e r h = behind_right g fields same keys column (Known (Logical y)) c rest refl (form u) i (Err m) e r h
  record_right g fields same keys column (Known (Logical y)) c rest (form u) i (Ok ks) e r h = behind_right g fields same keys column (Known (Logical y)) c rest refl (form u) i (Ok ks) e r h
  record_right g fields same keys column (Known (Logical y)) c rest open_test i (Err m) e r h = behind_right g fields same keys column (Known (Logical y)) c rest refl open_test i (Err m) e r h
  record_right g fields same keys column (Known (Logical y)) c rest open_test i (Ok ks) e r h = behind_right g fields same keys column (Known (Logical y)) c rest refl open_test i (Ok ks) e r h
  record_right g fields same keys column (Known Empty) c rest (no_number k) i kinds e r h = behind_right g fields same keys column (Known Empty) c rest refl (no_number k) i kinds e r h
  record_right g fields same keys column (Known Empty) c rest (form u) i (Err m) e r h = behind_right g fields same keys column (Known Empty) c rest refl (form u) i (Err m) e r h
  record_right g fields same keys column (Known Empty) c rest (form u) i (Ok ks) e r h = behind_right g fields same keys column (Known Empty) c rest refl (form u) i (Ok ks) e r h
  record_right g fields same keys column (Known Empty) c rest open_test i (Err m) e r h = behind_right g fields same keys column (Known Empty) c rest refl open_test i (Err m) e r h
  record_right g fields same keys column (Known Empty) c rest open_test i (Ok ks) e r h = behind_right g fields same keys column (Known Empty) c rest refl open_test i (Ok ks) e r h
  record_right g fields same keys column (Affine f) c rest (no_number k) i kinds e r h = behind_right g fields same keys column (Affine f) c rest refl (no_number k) i kinds e r h
  record_right g fields same keys column (Affine f) c rest (form u) i (Err m) e r h = behind_right g fields same keys column (Affine f) c rest refl (form u) i (Err m) e r h
  record_right g fields same keys column (Affine f) c rest (form u) i (Ok ks) e r h = behind_right g fields same keys column (Affine f) c rest refl (form u) i (Ok ks) e r h
  record_right g fields same keys column (Affine f) c rest open_test i (Err m) e r h = behind_right g fields same keys column (Affine f) c rest refl open_test i (Err m) e r h
  record_right g fields same keys column (Affine f) c rest open_test i (Ok ks) e r h = behind_right g fields same keys column (Affine f) c rest refl open_test i (Ok ks) e r h
  record_right g fields same keys column (Test f t) c rest (no_number k) i kinds e r h = behind_right g fields same keys column (Test f t) c rest refl (no_number k) i kinds e r h
  record_right g fields same keys column (Test f t) c rest (form u) i (Err m) e r h = behind_right g fields same keys column (Test f t) c rest refl (form u) i (Err m) e r h
  record_right g fields same keys column (Test f t) c rest (form u) i (Ok ks) e r h = behind_right g fields same keys column (Test f t) c rest refl (form u) i (Ok ks) e r h
  record_right g fields same keys column (Test f t) c rest open_test i (Err m) e r h = behind_right g fields same keys column (Test f t) c rest refl open_test i (Err m) e r h
  record_right g fields same keys column (Test f t) c rest open_test i (Ok ks) e r h = behind_right g fields same keys column (Test f t) c rest refl open_test i (Ok ks) e r h
