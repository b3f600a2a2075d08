-- Sums of numbers in places that meet a criterion.
use Rattle.std.proofs.Common.{◌≡◌, refl, sym, ap, ◌∙◌, ℕ, ◌+◌, ◌<◌, Bool, true, false, cond, length, get_or, drop, arith, List, ◌∷◌, map, Option, Result, Ok, Err}
use Rattle.std.specs.Prelude.{filter, flat_map, zip, if◌then◌else◌}
use Rattle.std.specs.Option.{option_to_list}
use Rattle.std.specs.Result.{IsErrAnd}
use Rattle.std.proofs.lemmas.List.{get_or_default}
use Rattle.fractions.specs.Rational.{ℚ}
use Rattle.cell_refs.specs.declared.error_kind.ErrorKind.{ErrorKind}
use Rattle.sheet_model.specs.declared.value.Value.{Value}
use Rattle.sheet_model.proofs.Spreading.{pairs_from}
use Rattle.sheet_funcs.specs.ReadCriteria.{is_met}
use Rattle.sheet_funcs.specs.Arguments.{all_or_error}
use Rattle.sheet_funcs.specs.Items.{number_at, numbers_among}
use Rattle.sheet_funcs.specs.Tallies.{tally_or_error}
use Rattle.sheet_funcs.specs.declared.tally.Tally.TheVariants.{Total}
use Rattle.sheet_funcs.proofs.Collecting.{filter_map-parts}
use Rattle.sheet_funcs.proofs.Tallying.{tallies_more, tallies_stop}
use Rattle.sheet_funcs.specs.declared.criterion.Criterion.{Criterion}

-- the numbers of the second values where the first ones meet the criterion
abbrev pub numbers_where : Criterion → List (Value × Value) → Result (List ℚ) ErrorKind
numbers_where criterion pairs = numbers_among (map (λ (p : Value × Value). p.1) (filter (λ (p : Value × Value). is_met criterion p.0) pairs))

-- what is left of two lists from a place on, in pairs
pairs : (xs ys : List Value) (i : ℕ) (x y : Value) → i < length xs → length xs ≡ length ys → x ≡ get_or xs i x → y ≡ get_or ys i y
    → zip (drop i xs) (drop i ys) ≡ (x, y) ∷ zip (drop (i + 1) xs) (drop (i + 1) ys)
pairs xs ys i x y h same e f = pairs_from xs ys i x y h (omega arith) e f

module _ (criterion : Criterion) (xs ys : List Value) (i : ℕ) (h : i < length xs) (same : length xs ≡ length ys) where
  -- the numbers from a place on
  abbrev from_place : ℕ → Result (List ℚ) ErrorKind
  from_place place = numbers_where criterion (zip (drop place xs) (drop place ys))

  -- the values behind this place that are met
  abbrev others : List Value
  others = map (λ (p : Value × Value). p.1) (filter (λ (p : Value × Value). is_met criterion p.0) (zip (drop (i + 1) xs) (drop (i + 1) ys)))

  by_test : (x y : Value) (b : Bool) → x ≡ get_or xs i x → y ≡ get_or ys i y → is_met criterion x ≡ b → from_place i ≡ numbers_among (if b then y ∷ others else others)
  by_test x y b e f met =
      ap (numbers_where criterion) (pairs xs ys i x y h same e f)
      ∙ ap (λ b. numbers_among (map (λ (p : Value × Value). p.1) (cond b ((x, y) ∷ filter (λ (p : Value × Value). is_met criterion p.0) (zip (drop (i + 1) xs) (drop (i + 1) ys))) (filter (λ (p : Value × Value). is_met criterion p.0) (zip (drop (i + 1) xs) (drop (i + 1) ys)))))) met
      ∙ elim b as (λ b. numbers_among (map (λ (p : Value × Value). p.1) (cond b ((x, y) ∷ filter (λ (p : Value × Value). is_met criterion p.0) (zip (drop (i + 1) xs) (drop (i + 1) ys))) (filter (λ (p : Value × Value). is_met criterion p.0) (zip (drop (i + 1) xs) (drop (i + 1) ys))))) ≡ numbers_among (if b then y ∷ others else others)) [ true ↦ refl | false ↦ refl ]

  -- where the first value doesn't meet the criterion
  pub skipped : (whole : Result (Option ℚ) ErrorKind) (total : Option ℚ) (x : Value) → x ≡ get_or xs i x → is_met criterion x ≡ false
      → whole ≡ tally_or_error Total total (from_place i) → whole ≡ tally_or_error Total total (from_place (i + 1))
  skipped whole total x e unmet all =
      let y = get_or ys i x in
      all ∙ ap (tally_or_error Total total) (by_test x y false e (get_or_default ys i x y (omega arith)) unmet)

  -- what the second values that are met come to, part by part
  parts : (vs : List Value) → numbers_among vs ≡ all_or_error (flat_map (λ v. option_to_list (number_at v)) vs)
  parts vs = ap all_or_error (filter_map-parts number_at vs)

  here : (x y : Value) → x ≡ get_or xs i x → y ≡ get_or ys i y → is_met criterion x ≡ true → from_place i ≡ all_or_error (flat_map (λ v. option_to_list (number_at v)) (y ∷ others))
  here x y e f met = by_test x y true e f met ∙ parts (y ∷ others)

  -- where it meets it
  pub added : (whole : Result (Option ℚ) ErrorKind) (total new : Option ℚ) (x y : Value) → x ≡ get_or xs i x → y ≡ get_or ys i y → is_met criterion x ≡ true
      → whole ≡ tally_or_error Total total (from_place i) → Ok new ≡ tally_or_error Total total (all_or_error (option_to_list (number_at y))) → whole ≡ tally_or_error Total new (from_place (i + 1))
  added whole total new x y e f met all part =
      tallies_more Total (λ v. option_to_list (number_at v)) whole total (y ∷ others) y others new refl (all ∙ ap (tally_or_error Total total) (here x y e f met)) part
      ∙ ap (tally_or_error Total new) (sym (parts others))

  pub met_error : (whole : Result (Option ℚ) ErrorKind) (total : Option ℚ) (k : ErrorKind) (r : Result (Option ℚ) ErrorKind) (x y : Value) → IsErrAnd r (λ l. l ≡ k) → x ≡ get_or xs i x → y ≡ get_or ys i y
      → is_met criterion x ≡ true → whole ≡ tally_or_error Total total (from_place i) → Err k ≡ tally_or_error Total total (all_or_error (option_to_list (number_at y))) → r ≡ whole
  met_error whole total k r x y is e f met all part =
      tallies_stop Total (λ v. option_to_list (number_at v)) whole total (y ∷ others) y others k r is refl (all ∙ ap (tally_or_error Total total) (here x y e f met)) part
