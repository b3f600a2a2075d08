-- COUNTIF of open arguments.
use Rattle.std.specs.Prelude.{filter, length, suc, pos}
use Rattle.std.specs.List.{AllByRecursion}
use Rattle.std.proofs.Common.{◌≡◌, refl, sym, ap, ◌∙◌, subst, Bool, true, false, if◌then◌else◌, List, [], ◌∷◌, map, Option, Some, None, Ok, ℕ}
use Rattle.fractions.specs.Whole.{whole_ℚ}
use Rattle.calculations.specs.Calculation.{exact}
use Rattle.sheet_model.specs.declared.value.Value.{Value}
use Rattle.sheet_model.specs.declared.value.Value.TheVariants.{Number, Text, Logical, Empty, Error}
use Rattle.sheet_model.specs.declared.grid.Arg.{Arg}
use Rattle.sheet_model.specs.declared.grid.Arg.TheVariants as arg
use Rattle.sheet_funcs.specs.Arguments.{value_of, no_error, on_ok, answered}
use Rattle.sheet_funcs.specs.Arguments as functions
use Rattle.sheet_funcs.specs.Sums.{how_many}
use Rattle.sheet_funcs.specs.Criteria.{meets, countif_of}
use Rattle.affine_forms.specs.Forms.{Assignment}
use Rattle.form_values.specs.Meaning.{abs_at, arg_at}
use Rattle.form_values.proofs.Opening.{IsAbs, IsSound}
use Rattle.form_values.specs.Trials.{Trial, given, and_then}
use Rattle.form_values.specs.declared.abs.Abs.{Abs}
use Rattle.form_values.specs.declared.abs.Abs.TheVariants.{Known, Affine, Test}
use Rattle.form_values.specs.declared.abs.AbsArg.{AbsArg}
use Rattle.form_values.specs.declared.abs.AbsArg.TheVariants.{One}
use Rattle.form_table.specs.Wanted as wanted
use Rattle.form_table.specs.Wanted.{grid_of}
use Rattle.form_table.specs.Lookups.{known_keys, error_of}
use Rattle.form_table.specs.Criteria.{places_from, by_known, met_places, countif_form}
use Rattle.form_table.specs.Products.{or_fault}
use Rattle.form_table.specs.Table.{of_two}
use Rattle.form_truth.proofs.Right.{IsRightArg, ArgumentVaries}
use Rattle.form_truth.proofs.Arguments.{value_at, value_sound, argument_varies}
use Rattle.form_truth.proofs.Varying.{value_varies, grid_open, grid_known}

-- there are as many places as elements that meet a criterion
places_many : (i : ℕ) (c : Value) (vs : List Value) → length (places_from i c vs) ≡ length (filter (meets c) vs)
places_many i c [] = refl
places_many i c (v ∷ vs) = by_test (meets c v) (places_many (suc i) c vs)
  where
    by_test : (b : Bool) → length (places_from (suc i) c vs) ≡ length (filter (meets c) vs)
        → length (if b then i ∷ places_from (suc i) c vs else places_from (suc i) c vs) ≡ length (if b then v ∷ filter (meets c) vs else filter (meets c) vs)
    by_test true e = ap suc e
    by_test false e = e

abbrev counted : List ℕ → Trial AbsArg
counted places = given (One (Known (Number (how_many places))))

module _ (tested criterion : AbsArg) (sound : IsSound tested) (fine : IsSound criterion) where
  abbrev value : Assignment → Arg
  value x = exact (countif_of (arg_at x tested) (arg_at x criterion))

  value_by : (x : Assignment) (v : Value) → value_of (arg_at x criterion) ≡ v
      → value x ≡ exact (on_ok (no_error v) (λ c. answered (Number (how_many (filter (meets c) (functions.grid_of (arg_at x tested)).items)))))
  value_by x v e = ap (λ v. exact (on_ok (no_error v) (λ c. answered (Number (how_many (filter (meets c) (functions.grid_of (arg_at x tested)).items)))))) e

  known_right : (v : Value) → no_error v ≡ Ok v → ((x : Assignment) → value_of (arg_at x criterion) ≡ v) → (k : Option (List Value)) → known_keys (grid_of tested).items ≡ k
      → IsRightArg value (tested ∷ criterion ∷ []) (exact (and_then (by_known k (Some v)) counted))
  known_right v n e None d = record { argument = tested; is_there = refl; varies = grid_open tested sound d }
  known_right v n e (Some vs) d = λ x.
      value_by x v (e x) ∙ ap (λ r. exact (on_ok r (λ c. answered (Number (how_many (filter (meets c) (functions.grid_of (arg_at x tested)).items)))))) n
      ∙ ap (λ vs. arg.One (Number (how_many (filter (meets v) vs)))) (grid_known tested vs d x)
      ∙ ap (λ m. arg.One (Number (whole_ℚ (pos m)))) (sym (places_many 0 v vs))

  open_right : ArgumentVaries arg_at (tested ∷ criterion ∷ []) 1 → (k : Option (List Value)) → known_keys (grid_of tested).items ≡ k
      → IsRightArg value (tested ∷ criterion ∷ []) (exact (and_then (by_known k None) counted))
  open_right v None d = record { argument = tested; is_there = refl; varies = grid_open tested sound d }
  open_right v (Some vs) d = v

  by_criterion : (b : Abs) → IsAbs b → wanted.value_of criterion ≡ b → IsRightArg value (tested ∷ criterion ∷ []) (exact (or_fault (error_of b) (and_then (met_places (grid_of tested).items b) counted)))
  by_criterion (Known (Error k)) h e = λ x. value_by x (Error k) (value_at x criterion ∙ ap (abs_at x) e)
  by_criterion (Known (Number y)) h e = known_right (Number y) refl (λ x. value_at x criterion ∙ ap (abs_at x) e) (known_keys (grid_of tested).items) refl
  by_criterion (Known (Text y)) h e = known_right (Text y) refl (λ x. value_at x criterion ∙ ap (abs_at x) e) (known_keys (grid_of tested).items) refl
  by_criterion (Known (Logical y)) h e = known_right (Logical y) refl (λ x. value_at x criterion ∙ ap (abs_at x) e) (known_keys (grid_of tested).items) refl
  by_criterion (Known Empty) h e = known_right Empty refl (λ x. value_at x criterion ∙ ap (abs_at x) e) (known_keys (grid_of tested).items) refl
  by_criterion (Affine f) h e =
      open_right record { argument = criterion; is_there = refl; varies = argument_varies criterion (subst (λ b. Rattle.form_values.specs.Refusals.Varies (λ x. abs_at x b)) (sym e) (value_varies (Affine f) h refl)) }
      (known_keys (grid_of tested).items) refl
  by_criterion (Test f r) h e =
      open_right record { argument = criterion; is_there = refl; varies = argument_varies criterion (subst (λ b. Rattle.form_values.specs.Refusals.Varies (λ x. abs_at x b)) (sym e) (value_varies (Test f r) h refl)) }
      (known_keys (grid_of tested).items) refl

pub countif_right : (args : List AbsArg) → AllByRecursion IsSound args → IsRightArg (λ x. exact (functions.of_two countif_of (map (arg_at x) args))) args (exact (of_two countif_form args))
countif_right [] h = λ x. refl
countif_right (a ∷ []) h = λ x. refl
countif_right (a ∷ b ∷ []) h = by_criterion a b h.0 h.1.0 (wanted.value_of b) (value_sound b h.1.0) refl
countif_right (a ∷ b ∷ c ∷ args) h = λ x. refl
