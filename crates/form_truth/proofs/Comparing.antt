-- Comparisons of open values, and texts.
use Rattle.std.proofs.Common.{◌≡◌, refl, sym, ap, ap₂, ◌∙◌, subst, Bool, true, false, if◌then◌else◌, List, [], ◌∷◌, arith}
use Rattle.std.specs.declared.cmp.Ordering.{Ordering}
use Rattle.std.specs.declared.cmp.Ordering.TheVariants.{Less, Equal, Greater}
use Rattle.fractions.specs.Rational.{ℚ, zero_ℚ, ◌-ℚ◌, ◌≤ℚ◌, le_ℚ}
use Rattle.fractions.proofs.Tests.{le_iff}
use Rattle.fractions.proofs.Common.{by_common₂, zero_same, linear}
use Rattle.calculations.specs.Calculation.{exact}
use Rattle.cell_refs.specs.declared.op.Op.{Op}
use Rattle.cell_refs.specs.declared.op.Op.TheVariants as op
use Rattle.sheet_model.specs.Tests.{number_cmp}
use Rattle.sheet_model.specs.Operators.{asks_for, compared as compared_values, joined_texts}
use Rattle.sheet_model.specs.Conversions.{text_in}
use Rattle.sheet_model.specs.declared.value.Value.{Value}
use Rattle.sheet_model.specs.declared.value.Value.TheVariants.{Number, Text, Logical, Empty, Error}
use Rattle.affine_forms.specs.Forms.{Assignment, AffineForm, IsForm, worth, constant_form}
use Rattle.affine_forms.specs.Steps.{subtracted}
use Rattle.affine_forms.proofs.Worths.{subtracted_worth}
use Rattle.form_values.specs.Meaning.{abs_at}
use Rattle.form_values.proofs.Opening.{IsAbs, IsOpen}
use Rattle.affine_forms.specs.Relations.{holds}
use Rattle.form_values.specs.Trials.{made}
use Rattle.affine_forms.specs.declared.rel.Rel.{Rel}
use Rattle.form_values.specs.declared.open_form.Open.{Open}
use Rattle.form_values.specs.declared.abs.Abs.{Abs}
use Rattle.form_values.specs.declared.abs.Abs.TheVariants.{Known, Affine, Test}
use Rattle.form_values.specs.Entries.{test}
use Rattle.form_table.specs.Operators.{relation_of, compared, joined}
use Rattle.form_truth.proofs.Relations.{takes, holds_takes}
use Rattle.form_truth.proofs.Right.{IsRight}
use Rattle.form_truth.proofs.Exact.{exact-made}
use Rattle.form_truth.proofs.Formed.{subtracted_is_form}
use Rattle.form_truth.proofs.Fitting.{test_at, constant_worth, affine_varies, test_varies}

-- whether an operator compares
abbrev pub compares : Op → Bool
compares op.Eq = true
compares op.Ne = true
compares op.Lt = true
compares op.Le = true
compares op.Gt = true
compares op.Ge = true
compares _ = false

-- the relation of a comparison asks for the same orders
pub same_orders : (o : Op) → compares o ≡ true → (s : Ordering) → takes (relation_of o) s ≡ asks_for o s
same_orders op.Eq h s = refl
same_orders op.Ne h s = refl
same_orders op.Lt h s = refl
same_orders op.Le h s = refl
same_orders op.Gt h s = refl
same_orders op.Ge h s = refl
same_orders op.Add h s = cc
same_orders op.Sub h s = cc
same_orders op.Mul h s = cc
same_orders op.Div h s = cc
same_orders op.Pow h s = cc
same_orders op.Cat h s = cc

-- ---- two numbers compare as their difference and 0
same_bool : (b c : Bool) → (b ≡ true → c ≡ true) → (c ≡ true → b ≡ true) → b ≡ c
same_bool true c f g = sym (f refl)
same_bool false true f g = g refl
same_bool false false f g = refl

below_zero : (x y : ℚ) → x ≤ℚ y → x -ℚ y ≤ℚ zero_ℚ
below_zero = by_common₂ _ (λ p n q m d hd. simp (zero_same d hd, linear) (omega arith))

from_below : (x y : ℚ) → x -ℚ y ≤ℚ zero_ℚ → x ≤ℚ y
from_below = by_common₂ _ (λ p n q m d hd. simp (zero_same d hd, linear) (omega arith))

above_zero : (x y : ℚ) → y ≤ℚ x → zero_ℚ ≤ℚ x -ℚ y
above_zero = by_common₂ _ (λ p n q m d hd. simp (zero_same d hd, linear) (omega arith))

from_above : (x y : ℚ) → zero_ℚ ≤ℚ x -ℚ y → y ≤ℚ x
from_above = by_common₂ _ (λ p n q m d hd. simp (zero_same d hd, linear) (omega arith))

pub cmp_difference : (x y : ℚ) → number_cmp x y ≡ number_cmp (x -ℚ y) zero_ℚ
cmp_difference x y =
    ap₂ (λ a b. if a then (if b then Equal else Less) else Greater)
    (same_bool (le_ℚ x y) (le_ℚ (x -ℚ y) zero_ℚ) (λ h. (le_iff _ _).1 (below_zero x y ((le_iff x y).0 h))) (λ h. (le_iff x y).1 (from_below x y ((le_iff _ _).0 h))))
    (same_bool (le_ℚ y x) (le_ℚ zero_ℚ (x -ℚ y)) (λ h. (le_iff _ _).1 (above_zero x y ((le_iff y x).0 h))) (λ h. (le_iff y x).1 (from_above x y ((le_iff _ _).0 h))))

module _ (o : Op) (c : compares o ≡ true) where
  -- a test of the difference is the comparison
  pub difference_right : (args : List Abs) (value : Assignment → Value) (f g : AffineForm) → IsForm f → IsForm g → ((x : Assignment) → value x ≡ Logical (asks_for o (number_cmp (worth x f) (worth x g))))
      → IsRight value args (exact (made (test (relation_of o)) (subtracted f g)))
  difference_right args value f g i j h =
      subst (IsRight value args) (sym (exact-made (test (relation_of o)) (subtracted f g)))
      (λ x. h x ∙ ap Logical (sym (same_orders o c _) ∙ ap (takes (relation_of o)) (cmp_difference (worth x f) (worth x g)) ∙ sym (holds_takes (relation_of o) (worth x f -ℚ worth x g)) ∙ ap (holds (relation_of o)) (sym (subtracted_worth x f g)))
      ∙ sym (test_at x (relation_of o) (exact (subtracted f g)) (subtracted_is_form f g i j)))

  -- a known value beside a number
  numbers : (x : Assignment) (p : ℚ) (f : AffineForm) → Logical (asks_for o (number_cmp p (worth x f))) ≡ Logical (asks_for o (number_cmp (worth x (constant_form p)) (worth x f)))
  numbers x p f = ap (λ q. Logical (asks_for o (number_cmp q (worth x f)))) (sym (constant_worth x p))

  numbers_behind : (x : Assignment) (p : ℚ) (f : AffineForm) → Logical (asks_for o (number_cmp (worth x f) p)) ≡ Logical (asks_for o (number_cmp (worth x f) (worth x (constant_form p))))
  numbers_behind x p f = ap (λ q. Logical (asks_for o (number_cmp (worth x f) q))) (sym (constant_worth x p))

  -- an affine form on the right of a known value
  known_affine : (v : Value) (f : Open) → IsOpen f.form → IsRight (λ x. compared_values o v (Number (worth x f.form))) (Known v ∷ Affine f ∷ []) (exact (compared o (Known v) (Affine f)))
  known_affine (Number p) f h = difference_right (Known (Number p) ∷ Affine f ∷ []) _ (constant_form p) f.form record { rise = tt } h.0 (λ x. numbers x p f.form)
  known_affine (Text t) f h = λ x. refl
  known_affine (Logical b) f h = λ x. refl
  known_affine Empty f h = difference_right (Known Empty ∷ Affine f ∷ []) _ (constant_form zero_ℚ) f.form record { rise = tt } h.0 (λ x. numbers x zero_ℚ f.form)
  known_affine (Error k) f h = λ x. refl

  -- on its left
  affine_known : (f : Open) (v : Value) → IsOpen f.form → IsRight (λ x. compared_values o (Number (worth x f.form)) v) (Affine f ∷ Known v ∷ []) (exact (compared o (Affine f) (Known v)))
  affine_known f (Number p) h = difference_right (Affine f ∷ Known (Number p) ∷ []) _ f.form (constant_form p) h.0 record { rise = tt } (λ x. numbers_behind x p f.form)
  affine_known f (Text t) h = λ x. refl
  affine_known f (Logical b) h = λ x. refl
  affine_known f Empty h = difference_right (Affine f ∷ Known Empty ∷ []) _ f.form (constant_form zero_ℚ) h.0 record { rise = tt } (λ x. numbers_behind x zero_ℚ f.form)
  affine_known f (Error k) h = λ x. refl

  -- a test beside a known value
  known_test : (v : Value) (f : Open) (r : Rel) → IsOpen f.form → IsRight (λ x. compared_values o v (Logical (holds r (worth x f.form)))) (Known v ∷ Test f r ∷ []) (exact (compared o (Known v) (Test f r)))
  known_test (Number p) f r h = λ x. refl
  known_test (Text t) f r h = λ x. refl
  known_test (Logical b) f r h = record { argument = Test f r; is_there = refl; varies = test_varies f r h }
  known_test Empty f r h = λ x. refl
  known_test (Error k) f r h = λ x. refl

  test_known : (f : Open) (r : Rel) (v : Value) → IsOpen f.form → IsRight (λ x. compared_values o (Logical (holds r (worth x f.form))) v) (Test f r ∷ Known v ∷ []) (exact (compared o (Test f r) (Known v)))
  test_known f r (Number p) h = λ x. refl
  test_known f r (Text t) h = λ x. refl
  test_known f r (Logical b) h = record { argument = Test f r; is_there = refl; varies = test_varies f r h }
  test_known f r Empty h = λ x. refl
  test_known f r (Error k) h = λ x. refl

  -- two values of which one at least is open
  pub compared_right : (a b : Abs) → IsAbs a → IsAbs b → (is_known_both : (v w : Value) → a ≡ Known v → b ≡ Known w → ⊥)
      → IsRight (λ x. compared_values o (abs_at x a) (abs_at x b)) (a ∷ b ∷ []) (exact (compared o a b))
  compared_right (Known v) (Known w) h k n = absurd (n v w refl refl)
  compared_right (Known v) (Affine g) h k n = known_affine v g k
  compared_right (Known v) (Test g s) h k n = known_test v g s k
  compared_right (Affine f) (Known w) h k n = affine_known f w h
  compared_right (Affine f) (Affine g) h k n = difference_right (Affine f ∷ Affine g ∷ []) _ f.form g.form h.0 k.0 (λ x. refl)
  compared_right (Affine f) (Test g s) h k n = λ x. refl
  compared_right (Test f r) (Known w) h k n = test_known f r w h
  compared_right (Test f r) (Affine g) h k n = λ x. refl
  compared_right (Test f r) (Test g s) h k n = record { argument = Test f r; is_there = refl; varies = test_varies f r h }

-- ---- texts
text_varies : (a : Abs) → IsAbs a → ((v : Value) → a ≡ Known v → ⊥) → Rattle.form_values.specs.Refusals.Varies (λ x. abs_at x a)
text_varies (Known v) h n = absurd (n v refl)
text_varies (Affine f) h n = affine_varies f h
text_varies (Test f r) h n = test_varies f r h

abbrev known_and : Value → Abs → Type 0
known_and v b = IsRight (λ x. joined_texts (text_in v) (text_in (abs_at x b))) (Known v ∷ b ∷ []) (exact (joined (Known v) b))

known_open : (v : Value) (b : Abs) → IsAbs b → ((w : Value) → b ≡ Known w → ⊥) → known_and v b
known_open v (Known w) k n = absurd (n w refl)
known_open (Number p) (Affine g) k n = record { argument = Affine g; is_there = refl; varies = affine_varies g k }
known_open (Text t) (Affine g) k n = record { argument = Affine g; is_there = refl; varies = affine_varies g k }
known_open (Logical b) (Affine g) k n = record { argument = Affine g; is_there = refl; varies = affine_varies g k }
known_open Empty (Affine g) k n = record { argument = Affine g; is_there = refl; varies = affine_varies g k }
known_open (Error e) (Affine g) k n = λ x. refl
known_open (Number p) (Test g s) k n = record { argument = Test g s; is_there = refl; varies = test_varies g s k }
known_open (Text t) (Test g s) k n = record { argument = Test g s; is_there = refl; varies = test_varies g s k }
known_open (Logical b) (Test g s) k n = record { argument = Test g s; is_there = refl; varies = test_varies g s k }
known_open Empty (Test g s) k n = record { argument = Test g s; is_there = refl; varies = test_varies g s k }
known_open (Error e) (Test g s) k n = λ x. refl

affine_joined : (f : Open) (b : Abs) → IsOpen f.form → IsRight (λ x. joined_texts (text_in (Number (worth x f.form))) (text_in (abs_at x b))) (Affine f ∷ b ∷ []) (exact (joined (Affine f) b))
affine_joined f (Known (Number p)) h = record { argument = Affine f; is_there = refl; varies = affine_varies f h }
affine_joined f (Known (Text t)) h = record { argument = Affine f; is_there = refl; varies = affine_varies f h }
affine_joined f (Known (Logical b)) h = record { argument = Affine f; is_there = refl; varies = affine_varies f h }
affine_joined f (Known Empty) h = record { argument = Affine f; is_there = refl; varies = affine_varies f h }
affine_joined f (Known (Error k)) h = λ x. refl
affine_joined f (Affine g) h = record { argument = Affine f; is_there = refl; varies = affine_varies f h }
affine_joined f (Test g s) h = record { argument = Affine f; is_there = refl; varies = affine_varies f h }

test_joined : (f : Open) (r : Rel) (b : Abs) → IsOpen f.form → IsRight (λ x. joined_texts (text_in (Logical (holds r (worth x f.form)))) (text_in (abs_at x b))) (Test f r ∷ b ∷ []) (exact (joined (Test f r) b))
test_joined f r (Known (Number p)) h = record { argument = Test f r; is_there = refl; varies = test_varies f r h }
test_joined f r (Known (Text t)) h = record { argument = Test f r; is_there = refl; varies = test_varies f r h }
test_joined f r (Known (Logical b)) h = record { argument = Test f r; is_there = refl; varies = test_varies f r h }
test_joined f r (Known Empty) h = record { argument = Test f r; is_there = refl; varies = test_varies f r h }
test_joined f r (Known (Error k)) h = λ x. refl
test_joined f r (Affine g) h = record { argument = Test f r; is_there = refl; varies = test_varies f r h }
test_joined f r (Test g s) h = record { argument = Test f r; is_there = refl; varies = test_varies f r h }

pub joined_right : (a b : Abs) → IsAbs a → IsAbs b → ((v w : Value) → a ≡ Known v → b ≡ Known w → ⊥)
    → IsRight (λ x. joined_texts (text_in (abs_at x a)) (text_in (abs_at x b))) (a ∷ b ∷ []) (exact (joined a b))
joined_right (Known v) b h k n = known_open v b k (λ w e. n v w refl e)
joined_right (Affine f) b h k n = affine_joined f b h
joined_right (Test f r) b h k n = test_joined f r b h
