-- The sum of some elements, and the places of the elements that meet a criterion.
use Rattle.std.proofs.Common.{◌≡◌, ◌<◌, ◌+◌, arith, sym, ap, ◌∙◌, true, false, if◌then◌else◌, ℕ, suc, List, [], ◌∷◌, ◌++◌, length, map, drop, get_or, append_assoc, Option, Some, None, Result, Ok, refl}
use Rattle.std.specs.List.{filter_map}
use Rattle.std.specs.Result.{result_map_both}
use Rattle.calculations.specs.Calculation.{narrow}
use Rattle.cell_refs.specs.declared.error_kind.ErrorKind.{ErrorKind}
use Rattle.sheet_funcs.specs.Criteria.{meets}
use Rattle.sheet_model.specs.declared.value.Value.{Value}
use Rattle.sheet_model.specs.declared.value.Value.TheVariants.{Error}
use Rattle.sheet_model.proofs.Spreading.{rest_from}
use Rattle.affine_forms.specs.Answers as forms
use Rattle.affine_forms.specs.Forms.{AffineForm}
use Rattle.affine_forms.specs.Steps.{total}
use Rattle.affine_forms.specs.declared.stop.FormStop.{FormStop}
use Rattle.form_values.specs.Entries.{entry}
use Rattle.form_values.specs.Known.{value_in}
use Rattle.form_values.specs.Trials.{Trial, Answers, made, one}
use Rattle.form_values.specs.declared.abs.Abs.{Abs}
use Rattle.form_values.specs.declared.abs.Abs.TheVariants.{Known}
use Rattle.form_values.specs.declared.abs.AbsArg.TheVariants as arg
use Rattle.form_values.specs.declared.refusal.OpRefusal.{OpRefusal}
use Rattle.form_table.specs.Criteria.{places_from, sum_of_elements}
use Rattle.form_table.specs.Items.{first_error, item_at}
use Rattle.form_table.specs.Products.{error_among, or_fault}
use Rattle.form_table.specs.Wanted.{unless}
use Rattle.form_ops.proofs.Answering.{form_answers, same_answers, then_answers}
use Rattle.form_ops.specs.Refusals.{form_refusal}
use Rattle.form_areas.proofs.AmongItems.{area_error, numbers_at}

-- ---- the sum of the numbers of some elements, or the first error among them
abbrev sum_of : List Abs → Trial Abs
sum_of items = unless (error_among items) (made entry (total (numbers_at items)))

sum_given : (items : List Abs) (r : Result AffineForm FormStop) → None ≡ error_among items → forms.Answers (total (numbers_at items)) r → Answers (sum_of items) (result_map_both entry form_refusal r)
sum_given items r e h =
    same_answers (made entry (total (numbers_at items))) (sum_of items) (result_map_both entry form_refusal r) (ap (λ o. narrow (unless o (made entry (total (numbers_at items))))) (sym e))
    (form_answers entry (total (numbers_at items)) r h)

by_error : (o : Option ErrorKind) (c : Trial Abs) → or_fault o (one c) ≡ one (unless o c)
by_error None c = refl
by_error (Some k) c = refl

sum_elements : (items : List Abs) → sum_of_elements items ≡ one (sum_of items)
sum_elements items =
    by_error (first_error (filter_map item_at items)) (made entry (total (numbers_at items))) ∙ ap (λ o. one (unless o (made entry (total (numbers_at items))))) (sym (area_error items))

-- the sum of some elements, where none is an error, and where one is
pub elements_given : (items : List Abs) (r : Result AffineForm FormStop) → None ≡ error_among items → forms.Answers (total (numbers_at items)) r
    → Answers (sum_of_elements items) (result_map_both arg.One (λ s. s) (result_map_both entry form_refusal r))
elements_given items r e h =
    same_answers (one (sum_of items)) (sum_of_elements items) (result_map_both arg.One (λ s. s) (result_map_both entry form_refusal r)) (ap narrow (sum_elements items))
    (then_answers arg.One (sum_of items) (result_map_both entry form_refusal r) (sum_given items r e h))

pub elements_fault : (items : List Abs) (k : ErrorKind) → Some k ≡ error_among items → narrow (sum_of_elements items) ≡ Some (Ok (arg.One (Known (Error k))))
elements_fault items k e = ap narrow (sum_elements items) ∙ ap (λ o. narrow (one (unless o (made entry (total (numbers_at items)))))) (sym e)

-- ---- the places, one after the other
next_place : (i : ℕ) → suc i ≡ i + 1
next_place i = omega arith

module _ (criterion : Value) (tested : List Abs) (i : ℕ) (whole now : List ℕ) (t : Abs) (h : i < length tested) (e : t ≡ get_or tested i t)
    (all : whole ≡ now ++ places_from i criterion (map value_in (drop i tested))) where
  abbrev rest : List ℕ
  rest = places_from (i + 1) criterion (map value_in (drop (i + 1) tested))

  first : whole ≡ now ++ (if meets criterion (value_in t) then i ∷ rest else rest)
  first =
      all
      ∙ ap (λ ts. now ++ places_from i criterion (map value_in ts)) (rest_from tested i t h e)
      ∙ ap (λ n. now ++ (if meets criterion (value_in t) then i ∷ places_from n criterion (map value_in (drop (i + 1) tested)) else places_from n criterion (map value_in (drop (i + 1) tested)))) (next_place i)

  -- where the element meets the criterion
  pub place_taken : (new : List ℕ) → meets criterion (value_in t) ≡ true → new ≡ now ++ i ∷ [] → whole ≡ new ++ rest
  place_taken new met more =
      first ∙ ap (λ b. now ++ (if b then i ∷ rest else rest)) met ∙ sym (append_assoc now (i ∷ []) rest) ∙ ap (λ ps. ps ++ rest) (sym more)

  -- where it doesn't
  pub place_skipped : meets criterion (value_in t) ≡ false → whole ≡ now ++ rest
  place_skipped unmet = first ∙ ap (λ b. now ++ (if b then i ∷ rest else rest)) unmet
