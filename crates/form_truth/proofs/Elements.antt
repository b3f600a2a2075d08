-- The sum of some elements under an assignment.
use Rattle.std.specs.Prelude.{◌++◌}
use Rattle.std.specs.List.{filter_map}
use Rattle.std.proofs.Common.{◌≡◌, refl, ap, ◌∙◌, subst, Bool, false, if◌then◌else◌, List, [], ◌∷◌, map, Option, Some, None, ℕ}
use Rattle.calculations.specs.Calculation.{exact}
use Rattle.cell_refs.specs.declared.error_kind.ErrorKind.{ErrorKind}
use Rattle.sheet_model.specs.declared.value.Value.TheVariants.{Number, Text, Logical, Empty, Error}
use Rattle.sheet_model.specs.declared.grid.Arg.{Arg}
use Rattle.sheet_funcs.specs.Arguments.{on_ok, counted, all_or_error}
use Rattle.sheet_funcs.specs.Items.{number_at, numbers_among}
use Rattle.sheet_funcs.specs.Sums as values
use Rattle.affine_forms.specs.Forms.{Assignment}
use Rattle.affine_forms.specs.Steps.{total}
use Rattle.form_values.specs.Grids.{Raster}
use Rattle.form_values.specs.Meaning.{abs_at}
use Rattle.form_values.specs.Trials.{Trial, made, one}
use Rattle.form_values.specs.declared.abs.Abs.{Abs}
use Rattle.form_values.specs.declared.abs.Abs.TheVariants.{Known, Affine, Test}
use Rattle.form_values.specs.declared.abs.AbsArg.TheVariants.{Area}
use Rattle.form_table.specs.Wanted.{Wanted}
use Rattle.form_values.specs.Entries.{entry}
use Rattle.form_table.specs.Items.{item_at, form_in, first_error, has_open, on_items}
use Rattle.form_table.specs.Criteria.{sum_of_elements}
use Rattle.form_table.specs.Products.{or_fault}
use Rattle.form_values.proofs.Opening.{IsSound}
use Rattle.form_truth.proofs.Right.{IsRightArg}
use Rattle.form_truth.proofs.Sums.{sum_right}

nothing_behind : {A : Type 0} (xs : List A) → xs ++ [] ≡ xs
nothing_behind [] = refl
nothing_behind (y ∷ xs) = let e = nothing_behind xs in λ i. y ∷ (e i)

-- among the elements of a grid no open logical is an item
none_open : (items : List Abs) → has_open (filter_map item_at items) ≡ false
none_open [] = refl
none_open (Known (Number y) ∷ items) = none_open items
none_open (Known (Error k) ∷ items) = none_open items
none_open (Known (Text y) ∷ items) = none_open items
none_open (Known (Logical y) ∷ items) = none_open items
none_open (Known Empty ∷ items) = none_open items
none_open (Affine f ∷ items) = none_open items
none_open (Test f r ∷ items) = none_open items

abbrev sum_row : List Wanted → Trial Abs
sum_row ws = made entry (total (filter_map form_in ws))

one_row : (k : Option ErrorKind) (c : Trial Abs) → on_items k None c ≡ or_fault k (one c)
one_row (Some k) c = refl
one_row None c = refl

abbrev place_of : Bool → Option ℕ
place_of b = if b then Some 0 else None

module _ (g : Raster) (sound : IsSound (Area g)) where
  abbrev ws : List Wanted
  ws = filter_map item_at g.items

  same_row : on_items (first_error (ws ++ [])) (place_of (has_open ws)) (sum_row (ws ++ [])) ≡ sum_of_elements g.items
  same_row =
      ap (λ vs. on_items (first_error vs) (place_of (has_open ws)) (sum_row vs)) (nothing_behind ws)
      ∙ ap (λ b. on_items (first_error ws) (place_of b) (sum_row ws)) (none_open g.items) ∙ one_row (first_error ws) (sum_row ws)

  summed : IsRightArg (λ x. exact (on_ok (all_or_error (filter_map number_at (map (abs_at x) g.items) ++ [])) (λ xs. counted (values.total xs)))) (Area g ∷ []) (exact (sum_of_elements g.items))
  summed = subst (λ c. IsRightArg (λ x. exact (on_ok (all_or_error (filter_map number_at (map (abs_at x) g.items) ++ [])) (λ xs. counted (values.total xs)))) (Area g ∷ []) (exact c)) same_row (sum_right (Area g ∷ []) (sound, tt))

  pub summed_right : IsRightArg (λ x. exact (on_ok (numbers_among (map (abs_at x) g.items)) (λ xs. counted (values.total xs)))) (Area g ∷ []) (exact (sum_of_elements g.items))
  summed_right =
      subst (λ (v : Assignment → Arg). IsRightArg v (Area g ∷ []) (exact (sum_of_elements g.items)))
      (λ i x. exact (on_ok (all_or_error (nothing_behind (filter_map number_at (map (abs_at x) g.items)) i)) (λ xs. counted (values.total xs)))) summed
