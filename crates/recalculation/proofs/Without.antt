-- A wide cell has no narrow value, and neither has what looks at a cell without one.
use Rattle.std.proofs.Common.{◌≡◌, zero, suc, Bool, true, false, ◌&&◌, if◌then◌else◌, List, [], ◌∷◌, refl, ap, ◌∙◌, arith}
use Rattle.std.specs.Prelude.{not, Option, Some, None, is_some, is_none, option_map}
use Rattle.std.specs.List.{Contains}
use Rattle.fractions.specs.Rational.{ℚ}
use Rattle.cell_refs.specs.declared.cell.Cell.{Cell}
use Rattle.cell_refs.specs.declared.error_kind.ErrorKind.TheVariants as kind
use Rattle.sheet_model.specs.declared.value.Value.{Value}
use Rattle.sheet_model.specs.declared.value.Value.TheVariants.{Error}
use Rattle.sheet_model.specs.declared.grid.Arg.{Arg}
use Rattle.calculations.specs.Calculation.{narrow}
use Rattle.recalculation.specs.Entries.{Book, Entry, Constant, Formula, Malformed, Overriding, entry}
use Rattle.recalculation.specs.Walks.{is_circular, steps_to}
use Rattle.recalculation.specs.Evaluation.{cell_value, evaluated}
use Rattle.recalculation.specs.Looking.{are_known, known_or_empty, outcome_of, looked_at}
use Rattle.recalculation.specs.Narrow.{entry_known, number_or, known, entry_is_wide, is_wide, Among, LooksFrom, LooksAt, Looked, itself, further, NoneIsWide}
use Rattle.recalculation.proofs.Lists.{both, second_true}
use Rattle.recalculation.proofs.Circles.{free_refers_to_free}
use Rattle.recalculation.proofs.Knowns.{known_is}
use Rattle.recalculation.proofs.Wide.{looked_referred}

module _ (f : Cell → Option Value) where
  none_of : (o : Option Arg) → is_none o ≡ true → option_map cell_value o ≡ None
  none_of None h = refl
  none_of (Some x) h = cc h

  -- what is wide has no value of its own
  entry_without : (e : Option Entry) → entry_is_wide f e ≡ true → entry_known f e ≡ None
  entry_without None h = cc h
  entry_without (Some (Constant v)) h = cc h
  entry_without (Some (Formula t)) h =
      none_of (outcome_of f t (looked_at f t)) (second_true (are_known f (looked_at f t)) (is_none (outcome_of f t (looked_at f t))) h)
  entry_without (Some Malformed) h = cc h

  layer_without : (o : Option ℚ) (circular : Bool) (e : Option Entry) → (not (is_some o) && (not circular && entry_is_wide f e)) ≡ true
      → number_or o (if circular then Some (Error kind.Circular) else entry_known f e) ≡ None
  layer_without (Some x) circular e h = cc h
  layer_without None true e h = cc h
  layer_without None false e h = entry_without e h

  -- cells of which one isn't known
  unknown_among : (cells : List Cell) (b : Cell) → Contains cells b → f b ≡ None → are_known f cells ≡ false
  unknown_among [] b there h = absurd (omega (arith, there.1))
  unknown_among (c ∷ cells) b (zero, lt, is) h = ap (λ o. is_some o && are_known f cells) (ap f is ∙ h)
  unknown_among (c ∷ cells) b (suc n, lt, is) h =
      elim (is_some (f c)) as (λ k. (k && are_known f cells) ≡ false) [ true ↦ unknown_among cells b (n, omega (arith, lt), is) h | false ↦ refl ]

  -- a formula that looks at a cell without a value has none
  entry_blocked : (e : Option Entry) (b : Cell) → Among f e b → f b ≡ None → entry_known f e ≡ None
  entry_blocked None b there h = absurd there
  entry_blocked (Some (Constant v)) b there h = absurd there
  entry_blocked (Some (Formula t)) b there h =
      ap (λ k. option_map cell_value (if k then narrow (evaluated (known_or_empty f) t) else None)) (unknown_among (looked_at f t) b there h)
  entry_blocked (Some Malformed) b there h = absurd there

module _ (book : Book) (over : Overriding) where
  pub wide_without : (a : Cell) → is_wide book over a ≡ true → known book over a ≡ None
  wide_without a h =
      known_is book over a ∙ layer_without (known book over) (over a) (is_circular book (λ b. is_some (over b)) a) (entry book a) h

  pub blocked : (a b : Cell) → is_circular book (λ c. is_some (over c)) a ≡ false → LooksAt book over a b → known book over b ≡ None → known book over a ≡ None
  blocked a b free look h =
      known_is book over a
      ∙ by (over a) (is_circular book (λ c. is_some (over c)) a) look.0 free look.2
    where
      by : (o : Option ℚ) (circular : Bool) → o ≡ None → circular ≡ false → LooksFrom circular (known book over) (entry book a) b
          → number_or o (if circular then Some (Error kind.Circular) else entry_known (known book over) (entry book a)) ≡ None
      by (Some x) circular e c there = cc e
      by None true e c there = cc c
      by None false e c there = entry_blocked (known book over) (entry book a) b there h

  is_known : (o : Option Value) (v : Value) → o ≡ Some v → o ≡ None → ⊥
  is_known o v e h = cc (e, h)

  -- all at which a cell with a narrow value looks, itself or by others, have one and are not circular
  pub all_known : (a : Cell) (v : Value) → is_circular book (λ c. is_some (over c)) a ≡ false → known book over a ≡ Some v → (b : Cell) → Looked book over a b
      → (is_circular book (λ c. is_some (over c)) b ≡ false) × ((w : Value) × (known book over b ≡ Some w))
  all_known a v free e b itself = (free, (v, e))
  all_known a v free e c (further b _ before look) =
      let there = all_known a v free e b before in
      let step : steps_to book (λ d. is_some (over d)) b c ≡ true = both _ _ (ap (λ o. not (is_some o)) look.0) (looked_referred book over b c look) in (
        free_refers_to_free book (λ d. is_some (over d)) b c there.0 step,
        elim (known book over c) as (λ o. known book over c ≡ o → (w : Value) × (o ≡ Some w)) [
          | Some w ↦ λ h. (w, refl)
          | None ↦ λ h. absurd (is_known (known book over b) there.1.0 there.1.1 (blocked b c there.0 look h))
        ] refl,
      )

  -- so none of them is wide
  pub none_wide : (a : Cell) (v : Value) → is_circular book (λ c. is_some (over c)) a ≡ false → known book over a ≡ Some v → NoneIsWide book over a
  none_wide a v free e b looked =
      elim (is_wide book over b) as (λ w. is_wide book over b ≡ w → w ≡ false) [
        | true ↦ λ h. let there = all_known a v free e b looked in absurd (is_known (known book over b) there.1.0 there.1.1 (wide_without b h))
        | false ↦ λ h. refl
      ] refl
