-- The value of a cell.
use Rattle.std.proofs.Common.{◌≡◌, ℕ, zero, suc, ◌<◌, Bool, true, ◌&&◌, if◌then◌else◌, length, refl, sym, ap, ◌∙◌, arith}
use Rattle.std.specs.Prelude.{not, Option, Some, None, is_some}
use Rattle.std.specs.FinMap.{keys, contains_key}
use Rattle.fractions.specs.Rational.{ℚ}
use Rattle.calculations.specs.Calculation.{exact}
use Rattle.cell_refs.specs.declared.cell.Cell.{Cell}
use Rattle.cell_refs.specs.declared.error_kind.ErrorKind.TheVariants as kind
use Rattle.sheet_model.specs.declared.value.Value.{Value}
use Rattle.sheet_model.specs.declared.value.Value.TheVariants.{Error}
use Rattle.recalculation.specs.Entries.{Book, Entry, Constant, Formula, Malformed, Overriding, entry}
use Rattle.recalculation.specs.Walks.{is_formula, refers, steps_to, is_circular, unfolded}
use Rattle.recalculation.specs.Evaluation.{cell_value}
use Rattle.recalculation.specs.Recalculation.{entry_value, number_or, recalculated, bounded_val, val}
use Rattle.recalculation.specs.Laws.{OverriddenHasItsNumber, CircularIsAnError, EqualNumbersGiveEqualValues}
use Rattle.recalculation.proofs.Lists.{first_true, second_true}
use Rattle.recalculation.proofs.Walking.{all_enough, fixed}
use Rattle.recalculation.proofs.Circles.{found_text, no_step}
use Rattle.recalculation.proofs.Reading.{evaluated_alike}
use Rattle.recalculation.proofs.WithinAreas.{of_referred}

-- what a cell says depends on the values of the cells to which it refers
pub entry_alike : (f g : Cell → Value) (e : Option Entry) → ((b : Cell) → refers e b ≡ true → f b ≡ g b) → entry_value f e ≡ entry_value g e
entry_alike f g None h = refl
entry_alike f g (Some (Constant v)) h = refl
entry_alike f g (Some (Formula t)) h = ap (λ c. cell_value (exact c)) (evaluated_alike f g t (of_referred (λ b. f b ≡ g b) t h))
entry_alike f g (Some Malformed) h = refl

-- so does its value
layer_alike : (f g : Cell → Value) (o : Option ℚ) (circular : Bool) (e : Option Entry) → ((b : Cell) → (not (is_some o) && refers e b) ≡ true → f b ≡ g b)
    → number_or o (if circular then Error kind.Circular else entry_value f e) ≡ number_or o (if circular then Error kind.Circular else entry_value g e)
layer_alike f g (Some x) circular e h = refl
layer_alike f g None circular e h = ap (λ v. if circular then Error kind.Circular else v) (entry_alike f g e h)

-- a formula of which it is known that walks start at it
either_value : (f g : Cell → Value) (w : Bool) (e : Option Entry) → w ≡ true
    → (if is_formula e && w then Error kind.Circular else entry_value f e) ≡ (if is_formula e && w then Error kind.Circular else entry_value g e)
either_value f g w None h = refl
either_value f g w (Some (Constant v)) h = refl
either_value f g w (Some (Formula t)) h =
    ap (λ b. if b then Error kind.Circular else entry_value f (Some (Formula t))) h ∙ sym (ap (λ b. if b then Error kind.Circular else entry_value g (Some (Formula t))) h)
either_value f g w (Some Malformed) h = refl

-- at a circular cell the other values don't matter
layer_looped : (f g : Cell → Value) (o : Option ℚ) (w : Bool) (e : Option Entry) → w ≡ true
    → number_or o (if is_formula e && (not (is_some o) && w) then Error kind.Circular else entry_value f e) ≡ number_or o (if is_formula e && (not (is_some o) && w) then Error kind.Circular else entry_value g e)
layer_looped f g (Some x) w e h = refl
layer_looped f g None w e h = either_value f g w e h

module _ (book : Book) (over : Overriding) where
  abbrev is_leaf : Cell → Bool
  is_leaf b = is_some (over b)

  -- a bound above the number of texts is enough
  pub val_enough : (m : ℕ) (a : Cell) → length (keys book.texts) < m → bounded_val book over m a ≡ val book over a
  unfolding bounded_val val
  val_enough zero a h = absurd (omega arith)
  val_enough (suc m) a h =
      all_enough (keys book.texts) (steps_to book is_leaf) (contains_key book.texts) (found_text book) (no_step book is_leaf) (recalculated book over)
      (λ f g b s. layer_alike f g (over b) (is_circular book is_leaf b) (entry book b) s) (Error kind.Circular)
      (λ f g b w. layer_looped f g (over b) _ (entry book b) w) m a (omega arith)

  -- the value of a cell is what its text makes of the values of the others
  pub val_is : (a : Cell) → val book over a ≡ recalculated book over (val book over) a
  unfolding bounded_val val
  val_is a =
      fixed (keys book.texts) (steps_to book is_leaf) (contains_key book.texts) (found_text book) (no_step book is_leaf) (recalculated book over)
      (λ f g b s. layer_alike f g (over b) (is_circular book is_leaf b) (entry book b) s) (Error kind.Circular)
      (λ f g b w. layer_looped f g (over b) _ (entry book b) w) a

-- the values of the others, of which the value of a cell is made
abbrev others : Book → Overriding → Cell → Value
others book over = unfolded (recalculated book over) (Error kind.Circular) (length (keys book.texts))

-- an overridden cell has its number, whatever its text says
pub val_overridden : OverriddenHasItsNumber
unfolding bounded_val val
val_overridden book over a x h = ap (λ o. number_or o (if is_circular book (λ b. is_some (over b)) a then Error kind.Circular else entry_value (others book over) (entry book a))) h

-- a cell that isn't overridden has its value
no_number : (o : Option ℚ) (v : Value) → not (is_some o) ≡ true → number_or o v ≡ v
no_number None v h = refl
no_number (Some x) v h = cc

-- a circular cell has its error
pub val_circular : CircularIsAnError
unfolding bounded_val val
val_circular book over a h =
    no_number (over a) _ (first_true (not (is_some (over a))) _ (second_true (is_formula (entry book a)) _ h))
    ∙ ap (λ w. if w then Error kind.Circular else entry_value (others book over) (entry book a)) h

-- overriding by equal numbers gives equal values
pub val_equal : EqualNumbersGiveEqualValues
val_equal book over under h a = ap (λ o. val book o a) (λ i b. h b i)
