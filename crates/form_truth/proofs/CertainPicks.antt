-- The error that INDEX certainly picks.
use Rattle.std.specs.Prelude.{◌+◌, ◌*◌, ◌-◌, ◌&&◌, ◌==◌, if◌then◌else◌, nat_le, slice_get, ℤ, negsuc, option_map}
use Rattle.std.specs.List.{AllByRecursion}
use Rattle.std.specs.Result.{result_map_both}
use Rattle.std.proofs.Common.{◌≡◌, refl, sym, ap, ap₂, ◌∙◌, subst, Bool, true, false, true≢false, List, [], ◌∷◌, map, Option, Some, None, Result, Ok, Err, ℕ, zero, suc, pos, arith, ◌⊎◌, inl, inr}
use Rattle.std.proofs.lemmas.Bool.{and_parts}
use Rattle.std.proofs.lemmas.Bool.Decides.{nat_tests}
use Rattle.fractions.specs.Rational.{ℚ}
use Rattle.fractions.specs.Floor.{floor_ℚ}
use Rattle.cell_refs.specs.declared.error_kind.ErrorKind.{ErrorKind}
use Rattle.cell_refs.specs.declared.error_kind.ErrorKind.TheVariants as kind
use Rattle.sheet_model.specs.declared.value.Value.TheVariants.{Number, Text, Logical, Empty, Error}
use Rattle.sheet_funcs.specs.Picks.{picked, part_of, pick_at, pick_of}
use Rattle.sheet_funcs.specs.declared.pick.Pick.{Pick}
use Rattle.sheet_funcs.specs.Rounding as numbers
use Rattle.affine_forms.specs.Forms.{Assignment, AffineForm}
use Rattle.form_values.specs.Meaning.{arg_at}
use Rattle.form_values.proofs.Opening.{IsSound, args_sound}
use Rattle.form_values.specs.declared.abs.Abs.{Abs}
use Rattle.form_values.specs.declared.abs.Abs.TheVariants.{Known, Affine, Test}
use Rattle.form_values.specs.declared.abs.AbsArg.{AbsArg}
use Rattle.form_table.specs.Wanted.{Wanted, form, open_test, none, number_of, constant_of}
use Rattle.form_table.specs.Picks.{picked_by, whole}
use Rattle.form_table.specs.Certain.{in_range, part_in, pick_in_range, is_ref_error, picks_ref_error, index_error}
use Rattle.form_truth.specs.Rows.{ArgumentVaries}
use Rattle.form_truth.specs.Picks.{IsErrorPicked, CertainIsPicked}
use Rattle.form_truth.proofs.Picking.{Placed, is_fault, is_known, is_form, is_test, no_columns, placed_at}

-- ---- a place that picks one row or column alone, or none
equal_of : (m n : ℕ) → (m == n) ≡ true → m ≡ n
equal_of m n h = grind (arith, nat_tests)

abbrev alone_at : ℕ → Option (ℕ × ℕ)
alone_at k = Some (k, k)

picked_one : (n : ℤ) → (picked 1 n ≡ alone_at 0) ⊎ (picked 1 n ≡ None)
picked_one (pos zero) = inl refl
picked_one (pos (suc m)) = by (nat_le (m + 1) 1) refl
  where
    by : (b : Bool) → nat_le (m + 1) 1 ≡ b → ((if b then alone_at m else None) ≡ alone_at 0) ⊎ ((if b then alone_at m else None) ≡ None)
    by true e = let none : m ≡ 0 = grind (arith, nat_tests) in inl (ap alone_at none)
    by false e = inr refl
picked_one (negsuc m) = inr refl

-- what a place picks under an assignment: what it picks in range, or nothing
record Ranged (size : ℕ) (number : Result ℚ ErrorKind) (r : Option (ℕ × ℕ)) : Type 0 where
  at : ℚ
  is : number ≡ Ok at
  there : (picked size (floor_ℚ at) ≡ r) ⊎ (picked size (floor_ℚ at) ≡ None)

some_pair : (p r : Option (ℕ × ℕ)) → ◌≡◌ {A = Option (Option (ℕ × ℕ))} (Some p) (Some r) → p ≡ r
some_pair p r e = cc

module _ (varies : Type 0) (size : ℕ) (number : Assignment → Result ℚ ErrorKind) (x : Assignment) (r : Option (ℕ × ℕ)) where
  open_ranged : (q : ℚ) → number x ≡ Ok q → (b : Bool) → (size == 1) ≡ b → (if b then Some (alone_at 0) else None) ≡ Some r → Ranged size (number x) r
  open_ranged q d true e h =
      let one : size ≡ 1 = equal_of size 1 e in
      let first : alone_at 0 ≡ r = some_pair (alone_at 0) r h in
      record { at = q; is = d; there = subst (λ n. (picked n (floor_ℚ q) ≡ r) ⊎ (picked n (floor_ℚ q) ≡ None)) (sym one) (by first (picked_one (floor_ℚ q))) }
    where
      by : alone_at 0 ≡ r → (picked 1 (floor_ℚ q) ≡ alone_at 0) ⊎ (picked 1 (floor_ℚ q) ≡ None) → (picked 1 (floor_ℚ q) ≡ r) ⊎ (picked 1 (floor_ℚ q) ≡ None)
      by first (inl p) = inl (p ∙ first)
      by first (inr p) = inr p
  open_ranged q d false e h = cc

  ranged : (w : Wanted) → Placed varies size number w → in_range size w (picked_by size w) ≡ Some r → Ranged size (number x) r
  ranged (none k) p h = cc
  ranged (form f) (is_known g c e d) h =
      let there : in_range size (form g) (Some (picked size (floor_ℚ c))) ≡ Some r = subst (λ o. in_range size (form g) (option_map (λ q. picked size (floor_ℚ q)) o) ≡ Some r) e h in
      record { at = c; is = d x; there = inl (some_pair (picked size (floor_ℚ c)) r there) }
  ranged (form f) (is_form g e d v) h =
      let there : in_range size (form g) None ≡ Some r = subst (λ o. in_range size (form g) (option_map (λ q. picked size (floor_ℚ q)) o) ≡ Some r) e h in
      open_ranged (d x).0 (d x).1 (size == 1) refl there
  ranged open_test (is_test d v) h = open_ranged (d x).0 (d x).1 (size == 1) refl h

-- ---- the element that is picked
ref_there : (o : Option Abs) → is_ref_error o ≡ true → o ≡ Some (Known (Error kind.Ref))
ref_there None h = absurd (true≢false (sym h))
ref_there (Some (Known (Error kind.Ref))) h = refl
ref_there (Some (Known (Error kind.Div0))) h = absurd (true≢false (sym h))
ref_there (Some (Known (Error kind.Value))) h = absurd (true≢false (sym h))
ref_there (Some (Known (Error kind.Num))) h = absurd (true≢false (sym h))
ref_there (Some (Known (Error kind.NotAvailable))) h = absurd (true≢false (sym h))
ref_there (Some (Known (Error kind.Circular))) h = absurd (true≢false (sym h))
ref_there (Some (Known (Error kind.Malformed))) h = absurd (true≢false (sym h))
ref_there (Some (Known (Number y))) h = absurd (true≢false (sym h))
ref_there (Some (Known (Text y))) h = absurd (true≢false (sym h))
ref_there (Some (Known (Logical y))) h = absurd (true≢false (sym h))
ref_there (Some (Known Empty)) h = absurd (true≢false (sym h))
ref_there (Some (Affine f)) h = absurd (true≢false (sym h))
ref_there (Some (Test f r)) h = absurd (true≢false (sym h))

module _ (columns : ℕ) (items : List Abs) where
  error_there : (r c : Option (ℕ × ℕ)) → picks_ref_error columns items (Some (part_of r c)) ≡ true → IsErrorPicked kind.Ref columns items (part_of r c)
  error_there None c h = absurd (true≢false (sym h))
  error_there (Some r) None h = absurd (true≢false (sym h))
  error_there (Some r) (Some c) h =
      let p = and_parts (r.1 == r.0) ((c.1 == c.0) && is_ref_error (slice_get items (r.0 * columns + c.0))) h in
      let q = and_parts (c.1 == c.0) (is_ref_error (slice_get items (r.0 * columns + c.0))) p.1 in
      (equal_of r.1 r.0 p.0, equal_of c.1 c.0 q.0, ref_there (slice_get items (r.0 * columns + c.0)) q.1)

  -- rows or columns out of range are the error too
  in_part : (r c r-at c-at : Option (ℕ × ℕ)) → (r-at ≡ r) ⊎ (r-at ≡ None) → (c-at ≡ c) ⊎ (c-at ≡ None) → IsErrorPicked kind.Ref columns items (part_of r c)
      → IsErrorPicked kind.Ref columns items (part_of r-at c-at)
  in_part r c r-at c-at (inl e) (inl f) h = subst (IsErrorPicked kind.Ref columns items) (sym (ap₂ part_of e f)) h
  in_part r c r-at c-at (inl e) (inr f) h = subst (IsErrorPicked kind.Ref columns items) (sym (ap (part_of r-at) f ∙ no_columns r-at)) refl
  in_part r c r-at c-at (inr e) g h = subst (λ o. IsErrorPicked kind.Ref columns items (part_of o c-at)) (sym e) refl

-- ---- one place and two
module _ (x : Assignment) (rows columns : ℕ) (items : List Abs) where
  abbrev both : Result ℚ ErrorKind → Result ℚ ErrorKind → Pick
  both r s = pick_at rows columns (result_map_both floor_ℚ (λ k. k) r) (result_map_both floor_ℚ (λ k. k) s)

  abbrev IsCertain : Pick → Type 0
  IsCertain = IsErrorPicked kind.Ref columns items

  abbrev number : AbsArg → Assignment → Result ℚ ErrorKind
  number a y = numbers.number_of (arg_at y a)

  abbrev place_in : ℕ → AbsArg → Option (Option (ℕ × ℕ))
  place_in size a = in_range size (number_of a) (picked_by size (number_of a))

  range_at : (args : List AbsArg) (i size : ℕ) (a : AbsArg) → slice_get args i ≡ Some a → IsSound a → (r : Option (ℕ × ℕ)) → place_in size a ≡ Some r → Ranged size (number a x) r
  range_at args i size a e h r d = ranged (ArgumentVaries arg_at args i) size (number a) x r (number_of a) (placed_at args i size a e h) d

  two : (a b : AbsArg) → IsSound a → IsSound b → (o p : Option (Option (ℕ × ℕ))) → place_in rows a ≡ o → place_in columns b ≡ p → picks_ref_error columns items (part_in o p) ≡ true
      → IsCertain (both (number a x) (number b x))
  two a b h j None p d e k = absurd (true≢false (sym k))
  two a b h j (Some r) None d e k = absurd (true≢false (sym k))
  two a b h j (Some r) (Some c) d e k =
      let row = range_at (a ∷ []) 0 rows a refl h r d in
      let column = range_at (b ∷ []) 0 columns b refl j c e in
      subst IsCertain (sym (ap₂ both row.is column.is)) (in_part columns items r c (picked rows (floor_ℚ row.at)) (picked columns (floor_ℚ column.at)) row.there column.there (error_there columns items r c k))

  in_columns : (a : AbsArg) → IsSound a → (p : Option (Option (ℕ × ℕ))) → place_in columns a ≡ p → picks_ref_error columns items (part_in (Some (whole rows)) p) ≡ true
      → IsCertain (pick_at rows columns (Ok (pos 0)) (result_map_both floor_ℚ (λ k. k) (number a x)))
  in_columns a h None e k = absurd (true≢false (sym k))
  in_columns a h (Some c) e k =
      let column = range_at (a ∷ []) 0 columns a refl h c e in
      subst IsCertain (sym (ap (λ n. pick_at rows columns (Ok (pos 0)) (result_map_both floor_ℚ (λ k. k) n)) column.is))
      (in_part columns items (whole rows) c (whole rows) (picked columns (floor_ℚ column.at)) (inl refl) column.there (error_there columns items (whole rows) c k))

  in_rows : (a : AbsArg) → IsSound a → (o : Option (Option (ℕ × ℕ))) → place_in rows a ≡ o → picks_ref_error columns items (part_in o (Some (whole columns))) ≡ true
      → IsCertain (pick_at rows columns (result_map_both floor_ℚ (λ k. k) (number a x)) (Ok (pos 0)))
  in_rows a h None d k = absurd (true≢false (sym k))
  in_rows a h (Some r) d k =
      let row = range_at (a ∷ []) 0 rows a refl h r d in
      subst IsCertain (sym (ap (λ n. pick_at rows columns (result_map_both floor_ℚ (λ k. k) n) (Ok (pos 0))) row.is))
      (in_part columns items r (whole columns) (picked rows (floor_ℚ row.at)) (whole columns) row.there (inl refl) (error_there columns items r (whole columns) k))

  alone : (a : AbsArg) → IsSound a → (b : Bool)
      → picks_ref_error columns items (if b then part_in (Some (whole rows)) (place_in columns a) else part_in (place_in rows a) (Some (whole columns))) ≡ true
      → IsCertain (if b then pick_at rows columns (Ok (pos 0)) (result_map_both floor_ℚ (λ k. k) (number a x)) else pick_at rows columns (result_map_both floor_ℚ (λ k. k) (number a x)) (Ok (pos 0)))
  alone a h true k = in_columns a h (place_in columns a) refl k
  alone a h false k = in_rows a h (place_in rows a) refl k

  by_count : (places : List AbsArg) → AllByRecursion IsSound places → picks_ref_error columns items (pick_in_range rows columns places) ≡ true → IsCertain (pick_of rows columns (map (arg_at x) places))
  by_count [] h k = absurd (true≢false (sym k))
  by_count (a ∷ []) h k = alone a h.0 (rows == 1) k
  by_count (a ∷ b ∷ []) h k = two a b h.0 h.1.0 (place_in rows a) (place_in columns b) refl refl k
  by_count (a ∷ b ∷ c ∷ places) h k = absurd (true≢false (sym k))

  by_test : (places : List AbsArg) → AllByRecursion IsSound places → (b : Bool) → picks_ref_error columns items (pick_in_range rows columns places) ≡ b → (k : ErrorKind) → (if b then Some kind.Ref else None) ≡ Some k
      → IsErrorPicked k columns items (pick_of rows columns (map (arg_at x) places))
  by_test places h true e k d = let s : kind.Ref ≡ k = cc in subst (λ l. IsErrorPicked l columns items (pick_of rows columns (map (arg_at x) places))) s (by_count places h e)
  by_test places h false e k d = cc

pub certain_is_picked : CertainIsPicked
certain_is_picked x rows columns items places k e = by_test x rows columns items places (args_sound places) (picks_ref_error columns items (pick_in_range rows columns places)) refl k e
