-- The values of the cells, where the number of each overridden cell is written into it.
use Rattle.std.proofs.Common.{◌≡◌, ℕ, zero, suc, ◌+◌, Bool, true, false, ◌&&◌, if◌then◌else◌, length, refl, sym, ap, ◌∙◌, arith, inl, inr}
use Rattle.std.specs.Prelude.{not, Option, Some, None, is_some}
use Rattle.std.specs.List.{list_any}
use Rattle.std.specs.FinMap.{keys}
use Rattle.fractions.specs.Rational.{ℚ}
use Rattle.cell_refs.specs.declared.cell.Cell.{Cell}
use Rattle.cell_refs.specs.declared.error_kind.ErrorKind.TheVariants as kind
use Rattle.sheet_model.specs.declared.value.Value.{Value}
use Rattle.sheet_model.specs.declared.value.Value.TheVariants.{Number, Error}
use Rattle.recalculation.specs.Entries.{Book, Entry, Overriding, entry, no_overriding}
use Rattle.recalculation.specs.Walks.{has_walk, is_formula, refers, steps_to, is_circular, unfolded}
use Rattle.recalculation.specs.Recalculation.{entry_value, number_or, recalculated, bounded_val, val}
use Rattle.recalculation.proofs.Values.{val_enough}
use Rattle.written_cells.specs.Written.{Says, IsWritten, WrittenIsOverridden}
use Rattle.written_cells.proofs.Kept.{same_circle, same_circular}

-- the test of an overridden cell
abbrev is_given : Overriding → Cell → Bool
is_given over b = is_some (over b)

-- what says a number refers to no cell
refers_to_none : (e : Option Entry) (x : ℚ) (b : Cell) → Says e x → refers e b ≡ false
refers_to_none e x b (inl s) = ap (λ e. refers e b) s
refers_to_none e x b (inr (t, s, w)) = ap (λ e. refers e b) s ∙ w.alone b

-- what says a number is worth it over whatever values
worth_it : (e : Option Entry) (x : ℚ) (values : Cell → Value) → Says e x → entry_value values e ≡ Number x
worth_it e x values (inl s) = ap (entry_value values) s
worth_it e x values (inr (t, s, w)) = ap (entry_value values) s ∙ w.worth values

-- an overridden cell isn't circular
given_free : (o : Option ℚ) (x : ℚ) (e : Option Entry) (w : Bool) → o ≡ Some x → (is_formula e && (not (is_some o) && w)) ≡ false
given_free None x e w h = cc
given_free (Some y) x e w h = elim (is_formula e) as (λ f. (f && false) ≡ false) [ true ↦ refl | false ↦ refl ]

module _ (before : Book) (over : Overriding) (after : Book) (is : IsWritten before over after) where
  -- the same steps lead from a cell
  same_steps : (a b : Cell) → steps_to after (is_given no_overriding) a b ≡ steps_to before (is_given over) a b
  same_steps a b = by (over a) refl
    where
      by : (o : Option ℚ) → over a ≡ o → steps_to after (is_given no_overriding) a b ≡ steps_to before (is_given over) a b
      by None h = ap (λ e. refers e b) (is.others a h) ∙ ap (λ o. not (is_some o) && refers (entry before a) b) (sym h)
      by (Some x) h = refers_to_none (entry after a) x b (is.written a x h) ∙ ap (λ o. not (is_some o) && refers (entry before a) b) (sym h)

  -- the same cells are circular
  circular_after : (a : Cell) → is_circular after (is_given no_overriding) a ≡ is_circular before (is_given over) a
  circular_after a = same_circular after before (is_given no_overriding) (is_given over) same_steps a

  -- a formula, whether it stands in a cell or not, refers to one of them in both workbooks or in neither
  pub circle_after : (e : Option Entry)
      → list_any (λ b. refers e b && is_circular after (is_given no_overriding) b) (keys after.texts) ≡ list_any (λ b. refers e b && is_circular before (is_given over) b) (keys before.texts)
  circle_after e = same_circle after before (is_given no_overriding) (is_given over) circular_after e

  -- an overridden cell isn't circular, and one in which its number stands isn't either
  free_before : (a : Cell) (x : ℚ) → over a ≡ Some x → is_circular before (is_given over) a ≡ false
  free_before a x h = given_free (over a) x (entry before a) (has_walk (keys before.texts) (steps_to before (is_given over)) (length (keys before.texts)) a) h

  -- a cell over the same values of the others
  same_layer : (f : Cell → Value) (a : Cell) → recalculated after no_overriding f a ≡ recalculated before over f a
  same_layer f a = by (over a) refl
    where
      by : (o : Option ℚ) → over a ≡ o → recalculated after no_overriding f a ≡ recalculated before over f a
      by None h = λ i. number_or (sym h i) (if (circular_after a i) then Error kind.Circular else entry_value f (is.others a h i))
      by (Some x) h =
          ap (λ w. if w then Error kind.Circular else entry_value f (entry after a)) (circular_after a ∙ free_before a x h)
          ∙ worth_it (entry after a) x f (is.written a x h)
          ∙ ap (λ o. number_or o (if is_circular before (is_given over) a then Error kind.Circular else entry_value f (entry before a))) (sym h)

  -- the values are the same at each bound
  same_bounded : (n : ℕ) (a : Cell) → bounded_val after no_overriding n a ≡ bounded_val before over n a
  unfolding bounded_val
  same_bounded zero a = refl
  same_bounded (suc n) a =
      ap (λ f. recalculated after no_overriding f a) (λ i b. same_bounded n b i)
      ∙ same_layer (unfolded (recalculated before over) (Error kind.Circular) n) a

  -- and so are the values
  same_values : (a : Cell) → val after no_overriding a ≡ val before over a
  same_values a =
      let n : ℕ = length (keys after.texts) + length (keys before.texts) + 1 in
      sym (val_enough after no_overriding n a (omega arith)) ∙ same_bounded n a ∙ val_enough before over n a (omega arith)

-- recalculation is with the numbers written what it was with them overridden
pub written_is_overridden : WrittenIsOverridden
written_is_overridden before over after is a = same_values before over after is a
