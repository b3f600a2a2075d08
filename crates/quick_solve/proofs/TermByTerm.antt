-- Values in the place of the parameters of a form, term by term.
use Rattle.std.proofs.Common.{◌≡◌, ◌≢◌, refl, sym, ap, ap₂, ◌∙◌, subst, Result, Ok, Err, ℕ, suc, ◌-◌, ◌≤◌, ◌/◌, Bool, true, false, if◌then◌else◌, nat_lt, List, [], ◌∷◌, ◌++◌, Option, Some, None, ℤ, pos, ◌+ℤ◌, ◌*ℤ◌, append_assoc, append-nil, arith, lit<}
use Rattle.std.specs.Option.{option_and_then, option_map}
use Rattle.std.specs.Result.{IsErrAnd}
use Rattle.frac128.specs.declared.fault.Wide.{Wide}
use Rattle.affine_forms.specs.Answers.{Answers, AnswersInPlace}
use Rattle.affine_forms.specs.Single.{IsStep}
use Rattle.affine_forms.specs.declared.stop.FormStop.{FormStop}
use Rattle.affine_forms.specs.declared.stop.FormStop.TheVariants as stop
use Rattle.std.proofs.lemmas.Int.{ints}
use Rattle.std.proofs.lemmas.Nat.Gcd.{same_from_IsGcd}
use Rattle.std.proofs.Math.Nat.{one-dvd}
use Rattle.fractions.specs.Gcd.{gcd}
use Rattle.fractions.specs.Rational.{ℚ, denominator, numerator, one_ℚ, zero_ℚ, ◌*ℚ◌}
use Rattle.fractions.proofs.Gcd.{gcd_is}
use Rattle.fractions.proofs.Laws.{add-zero, one-mul, zero-mul}
use Rattle.fractions.proofs.Whole.{denominator-whole, numerator-whole, whole-zero}
use Rattle.frac128.specs.Narrow.{IsNarrow, IsNarrowSum, IsNarrowWhole}
use Rattle.frac128.proofs.NarrowLaws.{narrow-zero, narrow_sum_test, narrow_test}
use Rattle.calculations.specs.Calculation.{Calculation, after, done, narrow, product, stays_narrow, sum, turned_into}
use Rattle.calculations.proofs.CalculationLaws.{narrow-followed_by, narrow-turned_into}
use Rattle.affine_forms.specs.Forms.{Assignment, AffineForm, IsForm, RiseFrom, decision_form}
use Rattle.affine_forms.specs.Lists.{IsBehind}
use Rattle.affine_forms.specs.Steps.{added, added_product, evaluated_at, in_front, merged, scaled, scaled_terms, with_constant}
use Rattle.affine_forms.proofs.Exact.{exact-turned_into}
use Rattle.affine_forms.proofs.SideBySide.{behind_merged}
use Rattle.affine_forms.proofs.Stepping.{goes_on, stops}
use Rattle.affine_forms.proofs.TermSteps.{front_some}
use Rattle.parameter_laws.specs.Putting.{decision_terms, parameter_terms, put_in}
use Rattle.parameter_laws.proofs.Putting.{putting_laws}
use Rattle.quick_solve.specs.Inner.{product_added, with_term}

-- ---- a number and 0
module _ (x : ℚ) where
  zero_over_one : denominator zero_ℚ ≡ 1
  zero_over_one = ap denominator (sym whole-zero) ∙ denominator-whole (pos 0)

  zero_above : numerator zero_ℚ ≡ pos 0
  zero_above = ap numerator (sym whole-zero) ∙ numerator-whole (pos 0)

  divisor_one : gcd (denominator x) (denominator zero_ℚ) ≡ 1
  divisor_one =
      ap (gcd (denominator x)) zero_over_one
      ∙ same_from_IsGcd (denominator x) 1 _ 1 (gcd_is (denominator x) 1) (one-dvd (denominator x), one-dvd 1, λ d p q. q)

  with_zero : (n m : ℤ) (d e g : ℕ) → e ≡ 1 → g ≡ 1 → m ≡ pos 0 → (n *ℤ pos (e / g) ≡ n) × (m *ℤ pos (d / g) ≡ pos 0) × (n *ℤ pos (e / g) +ℤ m *ℤ pos (d / g) ≡ n)
  with_zero n m d e g a b c = rw (a, b, c) (omega (arith, ints))

  narrow_with_zero : IsNarrow x → IsNarrowSum x zero_ℚ
  narrow_with_zero h =
      let w = with_zero (numerator x) (numerator zero_ℚ) (denominator x) (denominator zero_ℚ) (gcd (denominator x) (denominator zero_ℚ)) zero_over_one divisor_one zero_above in
      record {
        left = subst IsNarrowWhole (sym w.0) h.num;
        right = subst IsNarrowWhole (sym w.1) (lit< tt);
        total = subst IsNarrowWhole (sym w.2) h.num;
        lowest = subst IsNarrow (sym (add-zero x)) h;
      }

-- ---- a term behind others
last_above : (m : ℕ) (ts : List (ℕ × ℚ)) (u : ℕ × ℚ) → RiseFrom m (ts ++ u ∷ []) → m ≤ u.0
last_above m [] u r = r.0
last_above m (t ∷ ts) u r = omega (arith, r.0, last_above (suc t.0) ts u r.2)

last_some : (m : ℕ) (ts : List (ℕ × ℚ)) (u : ℕ × ℚ) → RiseFrom m (ts ++ u ∷ []) → u.1 ≢ zero_ℚ
last_some m [] u r = r.1
last_some m (t ∷ ts) u r = last_some (suc t.0) ts u r.2

last_behind : (m : ℕ) (ts : List (ℕ × ℚ)) (u : ℕ × ℚ) → RiseFrom m (ts ++ u ∷ []) → IsBehind ts (u ∷ [])
last_behind m [] u r = tt
last_behind m (t ∷ ts) u r = (last_above (suc t.0) ts u r.2, last_behind (suc t.0) ts u r.2)

module _ (f : AffineForm) (j : ℕ) (c : ℚ) (form : IsForm (with_constant f.constant (f.terms ++ (j, c) ∷ []))) (n : IsNarrow f.constant) (m : IsNarrow c) where
  one_term : narrow (scaled_terms c ((j, one_ℚ) ∷ [])) ≡ Some ((j, c) ∷ [])
  one_term =
      goes_on (product one_ℚ c) (λ e. turned_into (in_front j e) (done [])) c (sym (one-mul c)) ((narrow_test (one_ℚ *ℚ c)).1 (subst IsNarrow (sym (one-mul c)) m))
      ∙ ap Some (front_some j c [] (last_some 0 f.terms (j, c) form.rise))

  times : narrow (scaled c (decision_form j)) ≡ Some (with_constant zero_ℚ ((j, c) ∷ []))
  times =
      goes_on (product zero_ℚ c) (λ d. turned_into (with_constant d) (scaled_terms c ((j, one_ℚ) ∷ []))) zero_ℚ (sym (zero-mul c))
      ((narrow_test (zero_ℚ *ℚ c)).1 (subst IsNarrow (sym (zero-mul c)) narrow-zero))
      ∙ narrow-turned_into (with_constant zero_ℚ) (scaled_terms c ((j, one_ℚ) ∷ []))
      ∙ ap (option_map (with_constant zero_ℚ)) one_term

  both : narrow (added f (with_constant zero_ℚ ((j, c) ∷ []))) ≡ Some (with_constant f.constant (f.terms ++ (j, c) ∷ []))
  both =
      goes_on (sum f.constant zero_ℚ) (λ d. turned_into (with_constant d) (merged f.terms ((j, c) ∷ []))) f.constant (sym (add-zero f.constant))
      ((narrow_sum_test f.constant zero_ℚ).1 (narrow_with_zero f.constant n))
      ∙ narrow-turned_into (with_constant f.constant) (merged f.terms ((j, c) ∷ []))
      ∙ ap (option_map (with_constant f.constant)) (behind_merged f.terms ((j, c) ∷ []) (last_behind 0 f.terms (j, c) form.rise))

  one_behind : narrow (added_product f c (decision_form j)) ≡ Some (with_constant f.constant (f.terms ++ (j, c) ∷ []))
  one_behind = narrow-followed_by (scaled c (decision_form j)) (added f) ∙ ap (option_and_then (λ g. narrow (added f g))) times ∙ both

  -- so many times a decision behind those of the form is one term more
  pub one_more : (g : AffineForm) → g ≡ decision_form j → narrow (added_product f c g) ≡ Some (with_constant f.constant (f.terms ++ (j, c) ∷ []))
  one_more g e = ap (λ g. narrow (added_product f c g)) e ∙ one_behind

pub some_is : {A : Type 0} {x y : A} → Some x ≡ Some y → x ≡ y
some_is e = cc

pub none_is_some : {A P : Type 0} {x : A} → None ≡ Some x → P
none_is_some e = absurd cc

-- ---- one product
module _ (so_far c v : ℚ) where
  pub product_wide : stays_narrow (product c v) ≡ false → narrow (product_added so_far c v) ≡ None
  product_wide h = stops (product c v) (λ p. after (sum so_far p) done) h

  pub product_then_sum : (p : ℚ) (r : Result ℚ Wide) → p ≡ c *ℚ v → stays_narrow (product c v) ≡ true → IsStep (sum so_far p) r → AnswersInPlace (product_added so_far c v) r
  product_then_sum p (Ok x) e n h = goes_on (product c v) (λ p. after (sum so_far p) done) p e n ∙ goes_on (sum so_far p) done x h.0 h.1
  product_then_sum p (Err w) e n h = goes_on (product c v) (λ p. after (sum so_far p) done) p e n ∙ stops (sum so_far p) done h

-- ---- the constant
abbrev pub constant_of : Assignment → ℚ → List (ℕ × ℚ) → Option ℚ
constant_of y base ts = narrow (evaluated_at y (with_constant base ts))

module _ (n : ℕ) (y : Assignment) (base : ℚ) (t : ℕ × ℚ) (ts : List (ℕ × ℚ)) where
  -- one term, and then the others
  pub first_term : constant_of y base (parameter_terms n (t ∷ ts)) ≡ option_and_then (λ next. constant_of y next (parameter_terms n ts)) (narrow (with_term n y base t))
  first_term = by (nat_lt t.0 n)
    where
      by : (b : Bool) → constant_of y base (if b then parameter_terms n ts else (t.0 - n, t.1) ∷ parameter_terms n ts)
          ≡ option_and_then (λ next. constant_of y next (parameter_terms n ts)) (narrow (if b then done base else product_added base t.1 (y (t.0 - n))))
      by true = refl
      by false = narrow-followed_by (product_added base t.1 (y (t.0 - n))) (λ next. evaluated_at y (with_constant next (parameter_terms n ts)))

  pub term_given : (all : Option ℚ) (rest : List (ℕ × ℚ)) (next : ℚ) → rest ≡ t ∷ ts → narrow (with_term n y base t) ≡ Some next
      → all ≡ constant_of y base (parameter_terms n rest) → all ≡ constant_of y next (parameter_terms n ts)
  term_given all rest next d e h =
      h ∙ ap (λ us. constant_of y base (parameter_terms n us)) d ∙ first_term ∙ ap (option_and_then (λ next. constant_of y next (parameter_terms n ts))) e

  pub term_wide : (all : Option ℚ) (rest : List (ℕ × ℚ)) → rest ≡ t ∷ ts → narrow (with_term n y base t) ≡ None
      → all ≡ constant_of y base (parameter_terms n rest) → all ≡ None
  term_wide all rest d e h =
      h ∙ ap (λ us. constant_of y base (parameter_terms n us)) d ∙ first_term ∙ ap (option_and_then (λ next. constant_of y next (parameter_terms n ts))) e

-- ---- the terms of the decisions
-- one that is kept, and one that isn't
pub one_left : (n : ℕ) (t : ℕ × ℚ) → nat_lt t.0 n ≡ true → decision_terms n (t ∷ []) ≡ t ∷ []
one_left n t h = ap (λ b. if b then t ∷ [] else []) h

pub none_left : (n : ℕ) (t : ℕ × ℚ) → nat_lt t.0 n ≡ false → decision_terms n (t ∷ []) ≡ []
none_left n t h = ap (λ b. if b then t ∷ [] else []) h

pub nothing_more : (f : AffineForm) (us : List (ℕ × ℚ)) → us ≡ [] → f ≡ with_constant f.constant (f.terms ++ us)
nothing_more f us e = let same : f.terms ++ us ≡ f.terms = ap (λ us. f.terms ++ us) e ∙ append-nil f.terms in λ i. with_constant f.constant ((sym same) i)

pub first_left : (n : ℕ) (t : ℕ × ℚ) (ts : List (ℕ × ℚ)) → decision_terms n (t ∷ ts) ≡ decision_terms n (t ∷ []) ++ decision_terms n ts
first_left n t ts = by (nat_lt t.0 n)
  where
    by : (b : Bool) → (if b then t ∷ decision_terms n ts else decision_terms n ts) ≡ (if b then t ∷ [] else []) ++ decision_terms n ts
    by true = refl
    by false = refl

pub one_more_left : (n : ℕ) (all left next rest ts : List (ℕ × ℚ)) (t : ℕ × ℚ) → rest ≡ t ∷ ts → next ≡ left ++ decision_terms n (t ∷ []) → all ≡ left ++ decision_terms n rest
    → all ≡ next ++ decision_terms n ts
one_more_left n all left next rest ts t d e h =
    h ∙ ap (λ us. left ++ decision_terms n us) d ∙ ap (λ us. left ++ us) (first_left n t ts) ∙ sym (append_assoc left (decision_terms n (t ∷ [])) (decision_terms n ts))
    ∙ ap (λ us. us ++ decision_terms n ts) (sym e)

-- they rise
rising : (n : ℕ) (ts : List (ℕ × ℚ)) → RiseFrom 0 ts → RiseFrom 0 (decision_terms n ts)
rising n ts r =
    let y : Assignment = λ j. zero_ℚ in
    subst (λ (f : AffineForm). RiseFrom 0 f.terms)
    (exact-turned_into (λ c. with_constant c (decision_terms n ts)) (evaluated_at y (with_constant zero_ℚ (parameter_terms n ts))))
    (putting_laws.form n y (with_constant zero_ℚ ts) (record { rise = r })).rise

front_rises : (m : ℕ) (ts us : List (ℕ × ℚ)) → RiseFrom m (ts ++ us) → RiseFrom m ts
front_rises m [] us r = tt
front_rises m (t ∷ ts) us r = (r.0, r.1, front_rises (suc t.0) ts us r.2)

-- what is left so far, with one more, is a form
pub left_is_form : (n : ℕ) (c : ℚ) (all left rest ts : List (ℕ × ℚ)) (t : ℕ × ℚ) → RiseFrom 0 all → rest ≡ t ∷ ts → decision_terms n all ≡ left ++ decision_terms n rest
    → IsForm (with_constant c (left ++ decision_terms n (t ∷ [])))
left_is_form n c all left rest ts t r d h =
    let whole : decision_terms n all ≡ (left ++ decision_terms n (t ∷ [])) ++ decision_terms n ts = one_more_left n (decision_terms n all) left (left ++ decision_terms n (t ∷ [])) rest ts t d refl h in
    record { rise = front_rises 0 (left ++ decision_terms n (t ∷ [])) (decision_terms n ts) (subst (RiseFrom 0) whole (rising n all r)) }

-- ---- the form, whose parts are known by other names
module _ (n : ℕ) (y : Assignment) (f : AffineForm) (base : ℚ) (terms : List (ℕ × ℚ)) (b : base ≡ f.constant) (t : terms ≡ f.terms) where
  found : narrow (put_in n y f) ≡ option_map (λ c. with_constant c (decision_terms n terms)) (constant_of y base (parameter_terms n terms))
  found =
      ap₂ (λ c ts. narrow (turned_into (λ c. with_constant c (decision_terms n ts)) (evaluated_at y (with_constant c (parameter_terms n ts))))) (sym b) (sym t)
      ∙ narrow-turned_into (λ c. with_constant c (decision_terms n terms)) (evaluated_at y (with_constant base (parameter_terms n terms)))

  pub puts_stop : constant_of y base (parameter_terms n terms) ≡ None → narrow (put_in n y f) ≡ None
  puts_stop e = found ∙ ap (option_map (λ c. with_constant c (decision_terms n terms))) e

  pub puts_give : (c : ℚ) (again : List (ℕ × ℚ)) (left : AffineForm) → constant_of y base (parameter_terms n terms) ≡ Some c → again ≡ f.terms
      → left ≡ with_constant c (decision_terms n again) → narrow (put_in n y f) ≡ Some left
  puts_give c again left e d h =
      found ∙ ap (option_map (λ c. with_constant c (decision_terms n terms))) e
      ∙ ap (λ ts. Some (with_constant c (decision_terms n ts))) (t ∙ sym d) ∙ ap Some (sym h)

-- a number that isn't narrow
pub stopped : {A : Type 0} (whole : Calculation A) (r : Result A FormStop) → IsErrAnd r (λ s. s ≡ stop.Wide) → narrow whole ≡ None → Answers whole r
stopped whole (Ok x) is h = absurd is
stopped whole (Err s) is h = subst (λ t. Answers whole (Err t)) (sym is) h
