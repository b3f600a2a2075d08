-- Forms of a constant and terms that are found one after the other.
use Rattle.std.proofs.Common.{suc, ◌+◌, ◌≤◌, ◌≡◌, refl, sym, ap, ◌∙◌, subst, ℕ, ◌<◌, Bool, true, false, if◌then◌else◌, List, [], ◌∷◌, Some, None, Option, Result, Ok, Err, IfErr, length, rules, arith}
use Rattle.std.specs.Option.{option_map, option_and_then}
use Rattle.std.specs.Result.{IsErrAnd, result_map_both}
use Rattle.fractions.specs.Rational.{ℚ, zero_ℚ, eq_ℚ, ◌+ℚ◌, ◌*ℚ◌}
use Rattle.calculations.specs.Calculation.{Calculation, Operation, sum, product, done, after, exact, narrow, stays_narrow, result_of, turned_into}
use Rattle.calculations.proofs.CalculationLaws.{narrow-turned_into, narrow-exact, narrow-followed_by}
use Rattle.affine_forms.specs.declared.stop.FormStop.{FormStop}
use Rattle.affine_forms.specs.declared.stop.FormStop.TheVariants as stop
use Rattle.affine_forms.specs.Answers.{Answers, NeedsRoom}
use Rattle.affine_forms.specs.Forms.{AffineForm, IsForm, RiseFrom, negated, negated_terms}
use Rattle.affine_forms.specs.Lists.{NeedsRoomFor}
use Rattle.affine_forms.specs.Steps.{added, merged, scaled, scaled_terms, in_front, with_constant, added_product}
use Rattle.affine_forms.proofs.Exact.{exact-turned_into}
use Rattle.affine_forms.proofs.Stepping.{goes_on}
use Rattle.affine_forms.proofs.Worths.{merged_rises, scaled_rise, negated_rise}

-- a stop of a part is that of the whole
pub part_stops : {A B : Type 0} (part : Calculation A) (whole : Calculation B) (e : FormStop) (r : Result B FormStop) → IsErrAnd r (λ s. s ≡ e) → Answers part (Err e)
    → (narrow part ≡ None → narrow whole ≡ None) → Answers whole r
part_stops part whole e (Ok x) is h wide = absurd is
part_stops part whole e (Err s) is h wide = subst (λ t. Answers whole (Err t)) (sym is) (told e h)
  where
    told : (e : FormStop) → Answers part (Err e) → Answers whole (Err e)
    told stop.Wide h = wide h
    told stop.Memory h = tt

-- want of memory in a part is that of the whole
pub part_wants : {A : Type 0} (e : FormStop) (r : Result A FormStop) (P : Type 0) → IsErrAnd r (λ s. s ≡ e) → (e ≡ stop.Memory → P) → IfErr r (λ s. s ≡ stop.Memory → P)
part_wants e (Ok x) P is h = absurd is
part_wants e (Err s) P is h = λ m. h (sym is ∙ m)

-- the same where the answer is told by another value
pub part_stops_at : {A B T : Type 0} (part : Calculation A) (whole : Calculation B) (e : FormStop) (r : Result T FormStop) (h : T → B) → IsErrAnd r (λ s. s ≡ e) → Answers part (Err e)
    → (narrow part ≡ None → narrow whole ≡ None) → Answers whole (result_map_both h (λ s. s) r)
part_stops_at part whole e (Ok x) h is a wide = absurd is
part_stops_at part whole e (Err s) h is a wide = part_stops part whole e (Err s) is a wide

pub wants_more : {A : Type 0} (r : Result A FormStop) (P Q : Type 0) → (P → Q) → IfErr r (λ s. s ≡ stop.Memory → P) → IfErr r (λ s. s ≡ stop.Memory → Q)
wants_more (Ok x) P Q f h = tt
wants_more (Err s) P Q f h = λ m. f (h m)

form_of_some : (x y : AffineForm) → Some x ≡ Some y → x ≡ y
form_of_some x y e = search rules

none_is_none : (y : AffineForm) → ¬ (None ≡ Some y)
none_is_none y e = search rules

-- the constant and then the terms
module _ (o : Operation) (x : ℚ) (terms : Calculation (List (ℕ × ℚ))) (e : x ≡ result_of o) (h : stays_narrow o ≡ true) where
  abbrev whole : Calculation AffineForm
  whole = after o (λ c. turned_into (with_constant c) terms)

  found : narrow whole ≡ option_map (with_constant x) (narrow terms)
  found = goes_on o (λ c. turned_into (with_constant c) terms) x e h ∙ narrow-turned_into (with_constant x) terms

  pub terms_stop : narrow terms ≡ None → narrow whole ≡ None
  terms_stop n = found ∙ ap (option_map (with_constant x)) n

  pub terms_give : (ts : List (ℕ × ℚ)) → narrow terms ≡ Some ts → narrow whole ≡ Some (record { constant = x; terms = ts })
  terms_give ts n = found ∙ ap (option_map (with_constant x)) n

  pub terms_want : NeedsRoomFor terms → NeedsRoom whole
  terms_want room f n = by_cases (narrow terms) refl (sym found ∙ n)
    where
      by_cases : (t : Option (List (ℕ × ℚ))) → narrow terms ≡ t → option_map (with_constant x) t ≡ Some f → 2 < length f.terms
      by_cases None p q = absurd (none_is_none f q)
      by_cases (Some ts) p q = subst (λ (g : AffineForm). 2 < length g.terms) (form_of_some (with_constant x ts) f q) (room ts p)

-- a form by its two parts
pub whole_form : (f : AffineForm) (p : ℚ) (ts : List (ℕ × ℚ)) → p ≡ f.constant → ts ≡ f.terms → record { constant = p; terms = ts } ≡ f
whole_form f p ts e d = λ i. record { constant = e i; terms = d i }

-- ---- sums, where the parts of the two forms are known by other names
module _ (f g : AffineForm) (p q x : ℚ) (left right : List (ℕ × ℚ)) (a : p ≡ f.constant) (b : q ≡ g.constant) (l : left ≡ f.terms) (r : right ≡ g.terms)
    (e : x ≡ p +ℚ q) (h : stays_narrow (sum p q) ≡ true) where
  abbrev parts : Calculation AffineForm
  parts = added (record { constant = p; terms = left }) (record { constant = q; terms = right })

  same_sum : parts ≡ added f g
  same_sum = let u = whole_form f p left a l in let w = whole_form g q right b r in λ i. added (u i) (w i)

  pub sum_stops : (stop : FormStop) (result : Result AffineForm FormStop) → IsErrAnd result (λ s. s ≡ stop) → Answers (merged left right) (Err stop) → Answers (added f g) result
  sum_stops s result is t = subst (λ c. Answers c result) same_sum (part_stops (merged left right) parts s result is t (terms_stop (sum p q) x (merged left right) e h))

  pub sum_stops_at : {T : Type 0} (stop : FormStop) (result : Result T FormStop) (h : T → AffineForm) → IsErrAnd result (λ s. s ≡ stop) → Answers (merged left right) (Err stop)
      → Answers (added f g) (result_map_both h (λ s. s) result)
  sum_stops_at s result m is t =
      subst (λ c. Answers c (result_map_both m (λ s. s) result)) same_sum (part_stops_at (merged left right) parts s result m is t (terms_stop (sum p q) x (merged left right) e h))

  pub sum_gives : (ts : List (ℕ × ℚ)) → narrow (merged left right) ≡ Some ts → narrow (added f g) ≡ Some (record { constant = x; terms = ts })
  sum_gives ts n = ap narrow (sym same_sum) ∙ terms_give (sum p q) x (merged left right) e h ts n

  pub sum_wants : NeedsRoomFor (merged left right) → NeedsRoom (added f g)
  sum_wants room = subst NeedsRoom same_sum (terms_want (sum p q) x (merged left right) e h room)

pub sum_is_form : (c : ℚ) (f g : AffineForm) (left right ts : List (ℕ × ℚ)) → left ≡ f.terms → right ≡ g.terms → IsForm f → IsForm g → narrow (merged left right) ≡ Some ts
    → IsForm (record { constant = c; terms = ts })
sum_is_form c f g left right ts l r h k n =
    record { rise = subst (RiseFrom 0) (narrow-exact (merged left right) ts n) (merged_rises 0 left right (subst (RiseFrom 0) (sym l) h.rise) (subst (RiseFrom 0) (sym r) k.rise)) }

-- ---- multiples
module _ (f : AffineForm) (k p x : ℚ) (terms : List (ℕ × ℚ)) (a : p ≡ f.constant) (l : terms ≡ f.terms) (e : x ≡ p *ℚ k) (h : stays_narrow (product p k) ≡ true) where
  abbrev multiple : Calculation AffineForm
  multiple = scaled k (record { constant = p; terms = terms })

  same_multiple : multiple ≡ scaled k f
  same_multiple = let u = whole_form f p terms a l in λ i. scaled k (u i)

  pub multiple_stops : (stop : FormStop) (result : Result AffineForm FormStop) → IsErrAnd result (λ s. s ≡ stop) → Answers (scaled_terms k terms) (Err stop) → Answers (scaled k f) result
  multiple_stops s result is t = subst (λ c. Answers c result) same_multiple (part_stops (scaled_terms k terms) multiple s result is t (terms_stop (product p k) x (scaled_terms k terms) e h))

  pub multiple_gives : (ts : List (ℕ × ℚ)) → narrow (scaled_terms k terms) ≡ Some ts → narrow (scaled k f) ≡ Some (record { constant = x; terms = ts })
  multiple_gives ts n = ap narrow (sym same_multiple) ∙ terms_give (product p k) x (scaled_terms k terms) e h ts n

  pub multiple_wants : NeedsRoomFor (scaled_terms k terms) → NeedsRoom (scaled k f)
  multiple_wants room = subst NeedsRoom same_multiple (terms_want (product p k) x (scaled_terms k terms) e h room)

pub multiple_is_form : (c k : ℚ) (f : AffineForm) (terms ts : List (ℕ × ℚ)) → terms ≡ f.terms → IsForm f → narrow (scaled_terms k terms) ≡ Some ts → IsForm (record { constant = c; terms = ts })
multiple_is_form c k f terms ts l h n = record { rise = subst (RiseFrom 0) (narrow-exact (scaled_terms k terms) ts n) (scaled_rise 0 k terms (subst (RiseFrom 0) (sym l) h.rise)) }

-- ---- the sign turned
pub turned_is_form : (c : ℚ) (f : AffineForm) (terms ts : List (ℕ × ℚ)) → terms ≡ f.terms → IsForm f → ts ≡ negated_terms terms → IsForm (record { constant = c; terms = ts })
turned_is_form c f terms ts l h e = record { rise = subst (RiseFrom 0) (sym (e ∙ ap negated_terms l)) (negated_rise 0 f.terms h.rise) }

pub negated_length : (ts : List (ℕ × ℚ)) → length (negated_terms ts) ≡ length ts
negated_length [] = refl
negated_length (t ∷ ts) = ap suc (negated_length ts)

pub turned_wants : (f : AffineForm) → 2 < length f.terms → NeedsRoom (done (negated f))
turned_wants f h g e = let n : length (negated_terms f.terms) ≡ length f.terms = negated_length f.terms in subst (λ (k : AffineForm). 2 < length k.terms) (form_of_some (negated f) g e) (omega arith)

-- ---- a product that is added
module _ (f g product : AffineForm) (k : ℚ) (h : narrow (scaled k g) ≡ Some product) where
  pub product_then_sum : narrow (added_product f k g) ≡ narrow (added f product)
  product_then_sum = narrow-followed_by (scaled k g) (added f) ∙ ap (option_and_then (λ a. narrow (added f a))) h

  pub product_added : (r : Result AffineForm FormStop) → Answers (added f product) r → Answers (added_product f k g) r
  product_added (Ok x) a = product_then_sum ∙ a
  product_added (Err stop.Wide) a = product_then_sum ∙ a
  product_added (Err stop.Memory) a = tt

  pub product_wants : NeedsRoom (added f product) → NeedsRoom (added_product f k g)
  product_wants room x e = room x (sym product_then_sum ∙ e)

pub product_stops : (f g : AffineForm) (k : ℚ) → narrow (scaled k g) ≡ None → narrow (added_product f k g) ≡ None
product_stops f g k h = narrow-followed_by (scaled k g) (added f) ∙ ap (option_and_then (λ a. narrow (added f a))) h

-- ---- how many terms there are
front_shorter : (j : ℕ) (c : ℚ) (ts : List (ℕ × ℚ)) (b : Bool) → length {A = ℕ × ℚ} (if b then ts else (j, c) ∷ ts) ≤ suc (length ts)
front_shorter j c ts true = omega arith
front_shorter j c ts false = omega arith

scaled_shorter : (k : ℚ) (ts : List (ℕ × ℚ)) → length (exact (scaled_terms k ts)) ≤ length ts
scaled_shorter k [] = omega arith
scaled_shorter k (t ∷ ts) =
    let e : length (exact (scaled_terms k (t ∷ ts))) ≡ length (in_front t.0 (t.1 *ℚ k) (exact (scaled_terms k ts))) = ap length (exact-turned_into (in_front t.0 (t.1 *ℚ k)) (scaled_terms k ts)) in
    let s : length (in_front t.0 (t.1 *ℚ k) (exact (scaled_terms k ts))) ≤ suc (length (exact (scaled_terms k ts))) = front_shorter t.0 (t.1 *ℚ k) (exact (scaled_terms k ts)) (eq_ℚ (t.1 *ℚ k) zero_ℚ) in
    let l : length (exact (scaled_terms k ts)) ≤ length ts = scaled_shorter k ts in
    omega arith

pub product_shorter : (k : ℚ) (g f : AffineForm) → narrow (scaled k g) ≡ Some f → length f.terms ≤ length g.terms
product_shorter k g f h =
    let e : exact (scaled k g) ≡ f = narrow-exact (scaled k g) f h in
    let d : exact (scaled k g) ≡ with_constant (g.constant *ℚ k) (exact (scaled_terms k g.terms)) = exact-turned_into (with_constant (g.constant *ℚ k)) (scaled_terms k g.terms) in
    let m : length f.terms ≡ length (exact (scaled_terms k g.terms)) = ap (λ (p : AffineForm). length p.terms) (sym e ∙ d) in
    let l : length (exact (scaled_terms k g.terms)) ≤ length g.terms = scaled_shorter k g.terms in
    omega arith

pub few_more : {A : Type 0} (r : Result A FormStop) (m n k : ℕ) → n ≤ k → IfErr r (λ s. s ≡ stop.Memory → 2 < m + n) → IfErr r (λ s. s ≡ stop.Memory → 2 < m + k)
few_more r m n k l h = wants_more r (2 < m + n) (2 < m + k) (λ w. omega arith) h
