-- The value of a cell depends on the cells that are reached from it.
use Rattle.std.proofs.Common.{◌≡◌, ℕ, zero, suc, ◌+◌, Bool, true, false, ◌&&◌, if◌then◌else◌, List, [], ◌∷◌, length, refl, sym, ap, ◌∙◌, arith}
use Rattle.std.specs.Prelude.{not, ◌||◌, Option, is_some}
use Rattle.std.specs.List.{list_any}
use Rattle.std.specs.Ordering.{eq_by_cmp, is_eq}
use Rattle.std.specs.FinMap.{keys, contains_key-keys}
use Rattle.std.specs.Cmp.{tied_itself}
use Rattle.fractions.specs.Rational.{ℚ}
use Rattle.cell_refs.specs.declared.cell.Cell.{Cell}
use Rattle.cell_refs.specs.declared.error_kind.ErrorKind.TheVariants as kind
use Rattle.cell_refs.specs.Cells.{cell_cmp}
use Rattle.cell_refs.proofs.Order.{cells_total}
use Rattle.sheet_model.specs.declared.value.Value.{Value}
use Rattle.sheet_model.specs.declared.value.Value.TheVariants.{Error}
use Rattle.recalculation.specs.Entries.{Book, Entry, Overriding, entry}
use Rattle.recalculation.specs.Walks.{has_walk, is_formula, refers, steps_to, is_circular, unfolded}
use Rattle.recalculation.specs.Recalculation.{entry_value, number_or, recalculated, bounded_val, val}
use Rattle.recalculation.specs.Laws.{AreAlikeIn, DependsOnReached}
use Rattle.recalculation.proofs.Lists.{both, first_true, second_true, either_second}
use Rattle.recalculation.proofs.Circles.{found_text, entry_there, circular_is_endless}
use Rattle.recalculation.proofs.Values.{entry_alike, val_enough}

-- an element that passes, in a list of which one does
pub passes : (p : Cell → Bool) (xs : List Cell) → list_any p xs ≡ true → (b : Cell) × (p b ≡ true) × (list_any (eq_by_cmp cell_cmp b) xs ≡ true)
passes p [] h = cc
passes p (x ∷ xs) h =
    elim (p x) as (λ w. p x ≡ w → (w || list_any p xs) ≡ true → (b : Cell) × (p b ≡ true) × (list_any (eq_by_cmp cell_cmp b) (x ∷ xs) ≡ true)) [
      | true ↦ λ e _. (x, e, ap (λ r. r || list_any (eq_by_cmp cell_cmp x) xs) (ap is_eq (tied_itself cells_total x)))
      | false ↦ λ e h. let more = passes p xs h in (more.0, more.1, either_second (eq_by_cmp cell_cmp more.0 x) _ more.2)
    ] refl h

-- the test of a cell that isn't overridden
abbrev given : Overriding → Cell → Bool
given over b = is_some (over b)

module _ (P : Cell → Type 0) (book other : Book) (over under : Overriding) (alike : AreAlikeIn P book other over under) where
  -- a walk in one workbook is one in the other
  walks_over : (n : ℕ) (a : Cell) → P a → has_walk (keys book.texts) (steps_to book (given over)) n a ≡ true → has_walk (keys other.texts) (steps_to other (given under)) n a ≡ true
  walks_over zero a h w = refl
  walks_over (suc n) a h w =
      let b = passes (λ b. steps_to book (given over) a b && has_walk (keys book.texts) (steps_to book (given over)) n b) (keys book.texts) w in
      let step = first_true (steps_to book (given over) a b.0) _ b.1 in
      let there : P b.0 = alike.leads a b.0 h (second_true (not (given over a)) _ step) in
      let other_step : steps_to other (given under) a b.0 ≡ true = sym (λ i. not (is_some (alike.numbers a h i)) && refers (alike.entries a h i) b.0) ∙ step in
      found_text other b.0 (λ b. steps_to other (given under) a b && has_walk (keys other.texts) (steps_to other (given under)) n b)
      (sym (entry_there other b.0) ∙ sym (ap is_some (alike.entries b.0 there)) ∙ entry_there book b.0 ∙ contains_key-keys book.texts b.0 ∙ b.2)
      (both (steps_to other (given under) a b.0) _ other_step (walks_over n b.0 there (second_true (steps_to book (given over) a b.0) _ b.1)))

  -- a circular cell of one is one of the other
  circular_over : (a : Cell) → P a → is_circular book (given over) a ≡ true → is_circular other (given under) a ≡ true
  circular_over a h w =
      both _ _ (sym (ap is_formula (alike.entries a h)) ∙ first_true (is_formula (entry book a)) _ w)
      (both _ _ (sym (ap (λ x. not (is_some x)) (alike.numbers a h)) ∙ first_true (not (given over a)) _ (second_true (is_formula (entry book a)) _ w))
      (walks_over (length (keys other.texts)) a h (circular_is_endless book (given over) a (length (keys other.texts)) w)))

-- the two workbooks may change places
turned : (P : Cell → Type 0) (book other : Book) (over under : Overriding) → AreAlikeIn P book other over under → AreAlikeIn P other book under over
turned P book other over under alike = record {
  leads = λ a b h r. alike.leads a b h (ap (λ e. refers e b) (alike.entries a h) ∙ r);
  entries = λ a h. sym (alike.entries a h);
  numbers = λ a h. sym (alike.numbers a h);
}

-- two tests of which each passes where the other does
both_ways : (x y : Bool) → (x ≡ true → y ≡ true) → (y ≡ true → x ≡ true) → x ≡ y
both_ways true y f g = sym (f refl)
both_ways false true f g = g refl
both_ways false false f g = refl

-- a cell over values that are alike where it refers to them
layer_over : (f g : Cell → Value) (o : Option ℚ) (w : Bool) (e : Option Entry) → ((b : Cell) → refers e b ≡ true → f b ≡ g b)
    → number_or o (if w then Error kind.Circular else entry_value f e) ≡ number_or o (if w then Error kind.Circular else entry_value g e)
layer_over f g o w e h = ap (λ v. number_or o (if w then Error kind.Circular else v)) (entry_alike f g e h)

module _ (P : Cell → Type 0) (book other : Book) (over under : Overriding) (alike : AreAlikeIn P book other over under) where
  -- the values are alike at each bound
  bounded_over : (n : ℕ) (a : Cell) → P a → bounded_val book over n a ≡ bounded_val other under n a
  unfolding bounded_val
  bounded_over zero a h = refl
  bounded_over (suc n) a h =
      let f = unfolded (recalculated book over) (Error kind.Circular) n in
      let g = unfolded (recalculated other under) (Error kind.Circular) n in
      let w = both_ways (is_circular book (given over) a) (is_circular other (given under) a) (circular_over P book other over under alike a h)
      (circular_over P other book under over (turned P book other over under alike) a h) in
      layer_over f g (over a) (is_circular book (given over) a) (entry book a) (λ b r. bounded_over n b (alike.leads a b h r))
      ∙ (λ i. number_or (alike.numbers a h i) (if (w i) then Error kind.Circular else entry_value g (alike.entries a h i)))

  -- and so are the values
  pub reached_over : (a : Cell) → P a → val book over a ≡ val other under a
  reached_over a h =
      let n : ℕ = length (keys book.texts) + length (keys other.texts) + 1 in
      sym (val_enough book over n a (omega arith)) ∙ bounded_over n a h ∙ val_enough other under n a (omega arith)

-- so the value of a cell depends on the cells alone that are reached from it
pub depends_on_reached : DependsOnReached
depends_on_reached reached book other over under alike a h = reached_over (λ b. reached b ≡ true) book other over under alike a h
