-- Sums of products.
use Rattle.std.proofs.Common.{◌≡◌, ◌<◌, ◌≤◌, ◌+◌, ◌-◌, refl, sym, ap, ◌∙◌, ℕ, List, [], ◌∷◌, map, Option, Some, None, Result, Ok, Err}
use Rattle.std.specs.List.{range_with_len}
use Rattle.std.specs.Option.{option_and_then, option_map}
use Rattle.std.specs.Result.{IsErrAnd, result_map_both}
use Rattle.fractions.specs.Rational.{ℚ}
use Rattle.calculations.specs.Calculation.{Calculation, narrow}
use Rattle.calculations.proofs.CalculationLaws.{narrow-turned_into}
use Rattle.sheet_funcs.proofs.Ranges.{from_below, from_end}
use Rattle.affine_forms.specs.Answers as forms
use Rattle.affine_forms.specs.Forms.{AffineForm}
use Rattle.affine_forms.specs.Steps.{added, scaled}
use Rattle.affine_forms.specs.declared.stop.FormStop.{FormStop}
use Rattle.affine_forms.specs.declared.stop.FormStop.TheVariants as stop
use Rattle.form_values.specs.Trials.{Trial, Refusal, Answers, and_then, given, made, on_given, through_tried}
use Rattle.form_values.specs.declared.refusal.OpRefusal.{OpRefusal}
use Rattle.form_table.specs.Operators.{by_constants, times}
use Rattle.form_table.specs.Products.{product_of}
use Rattle.form_table.specs.Wanted.{constant_of}
use Rattle.form_ops.specs.Refusals.{form_refusal}
use Rattle.form_ops.proofs.Answering.{narrow-and_then, same_answers}
use Rattle.form_ops.proofs.Trying.{follows_then, refused, without_value}

-- ---- forms that are made
pub made_form : (c : Calculation AffineForm) (answer : Result AffineForm FormStop) → forms.Answers c answer → Answers (made (λ f. f) c) (result_map_both (λ f. f) form_refusal answer)
made_form c (Ok f) h = narrow-turned_into (λ a. Ok a) c ∙ ap (option_map (λ a. Ok a)) h
made_form c (Err stop.Wide) h = narrow-turned_into (λ a. Ok a) c ∙ ap (option_map (λ a. Ok a)) h
made_form c (Err stop.Memory) h = tt

-- the product, where the first factor is known, and where the second alone is
pub first_known : (f g : AffineForm) (k : ℚ) (r : Result AffineForm FormStop) → constant_of f ≡ Some k → forms.Answers (scaled k g) r → Answers (times f g) (result_map_both (λ h. h) form_refusal r)
first_known f g k r e h =
    same_answers (made (λ h. h) (scaled k g)) (times f g) (result_map_both (λ h. h) form_refusal r) (ap (λ o. narrow (by_constants f g o (constant_of g))) e) (made_form (scaled k g) r h)

pub second_known : (f g : AffineForm) (k : ℚ) (r : Result AffineForm FormStop) → constant_of f ≡ None → constant_of g ≡ Some k → forms.Answers (scaled k f) r
    → Answers (times f g) (result_map_both (λ h. h) form_refusal r)
second_known f g k r none e h =
    same_answers (made (λ h. h) (scaled k f)) (times f g) (result_map_both (λ h. h) form_refusal r)
    (ap (λ o. narrow (by_constants f g o (constant_of g))) none ∙ ap (λ o. narrow (by_constants f g None o)) e) (made_form (scaled k f) r h)

-- two factors
pub pair_answers : (x y a b : AffineForm) (r : Result AffineForm OpRefusal) → x ≡ a → y ≡ b → Answers (times x y) r → Answers (product_of (a ∷ b ∷ [])) r
pair_answers x y a b r e f h =
    rw (← e, ← f) (same_answers (times x y) (product_of (x ∷ y ∷ [])) r (narrow-and_then (times x y) (λ n. given n) (narrow (times x y)) refl ∙ unchanged (narrow (times x y))) h)
  where
    unchanged : (o : Option (Result AffineForm Refusal)) → option_and_then (λ r. narrow (on_given r (λ n. given n))) o ≡ o
    unchanged None = refl
    unchanged (Some (Ok n)) = refl
    unchanged (Some (Err r)) = refl

-- ---- a trial that goes through some
pub tried_goes : {A B : Type 0} (f : B → A → Trial B) (whole : Option (Result B Refusal)) (so_far : B) (rest : List A) (x : A) (others : List A) (next : B) → rest ≡ x ∷ others
    → whole ≡ narrow (through_tried f so_far rest) → narrow (f so_far x) ≡ Some (Ok next) → whole ≡ narrow (through_tried f next others)
tried_goes f whole so_far rest x others next e all h =
    all ∙ ap (λ xs. narrow (through_tried f so_far xs)) e ∙ narrow-and_then (f so_far x) (λ n. through_tried f n others) (Some (Ok next)) h

pub tried_stops : {A B : Type 0} (f : B → A → Trial B) (whole : Option (Result B Refusal)) (so_far : B) (rest : List A) (x : A) (others : List A) (o : Option Refusal) → rest ≡ x ∷ others
    → whole ≡ narrow (through_tried f so_far rest) → narrow (f so_far x) ≡ without_value o → whole ≡ without_value o
tried_stops f whole so_far rest x others o e all h =
    all ∙ ap (λ xs. narrow (through_tried f so_far xs)) e ∙ follows_then (f so_far x) (λ n. through_tried f n others) o h

-- a factor more, and one with which there is no product
pub factor_goes : (whole : Option (Result AffineForm Refusal)) (so_far x f next : AffineForm) (rest others : List AffineForm) → x ≡ f → rest ≡ f ∷ others → whole ≡ narrow (through_tried times so_far rest)
    → narrow (times so_far x) ≡ Some (Ok next) → whole ≡ narrow (through_tried times next others)
factor_goes whole so_far x f next rest others same e all h = tried_goes times whole so_far rest f others next e all (ap (λ g. narrow (times so_far g)) (sym same) ∙ h)

pub factor_stops : (whole : Trial AffineForm) (so_far x f : AffineForm) (rest others : List AffineForm) (e : OpRefusal) (r : Result AffineForm OpRefusal) → x ≡ f → rest ≡ f ∷ others
    → narrow whole ≡ narrow (through_tried times so_far rest) → IsErrAnd r (λ s. s ≡ e) → Answers (times so_far x) (Err e) → Answers whole r
factor_stops whole so_far x f rest others e r same first all is part =
    refused (times so_far x) whole e r is part (λ o none. tried_stops times (narrow whole) so_far rest f others o first all (ap (λ g. narrow (times so_far g)) (sym same) ∙ none))

-- ---- products added to a sum
-- a product added to the sum so far
abbrev pub product_added : AffineForm → List AffineForm → Trial AffineForm
product_added so_far fs = and_then (product_of fs) (λ p. made (λ f. f) (added so_far p))

pub added_answers : (so_far p : AffineForm) (fs : List AffineForm) (r : Result AffineForm OpRefusal) → narrow (product_of fs) ≡ Some (Ok p) → Answers (made (λ f. f) (added so_far p)) r
    → Answers (product_added so_far fs) r
added_answers so_far p fs r e h =
    same_answers (made (λ f. f) (added so_far p)) (product_added so_far fs) r (narrow-and_then (product_of fs) (λ p. made (λ f. f) (added so_far p)) (Some (Ok p)) e) h

-- those in the rest of the places
abbrev pub rest_added : (ℕ → List AffineForm) → AffineForm → ℕ → ℕ → Trial AffineForm
rest_added factors so_far i n = through_tried product_added so_far (map factors (range_with_len i (n - i)))

rest_from_place : (factors : ℕ → List AffineForm) (i n : ℕ) → i < n → map factors (range_with_len i (n - i)) ≡ factors i ∷ map factors (range_with_len (i + 1) (n - (i + 1)))
rest_from_place factors i n h = ap (map factors) (from_below i n h)

-- one place more
pub dot_goes : (factors : ℕ → List AffineForm) (whole : Option (Result AffineForm Refusal)) (so_far : AffineForm) (i n : ℕ) (p next : AffineForm) → i < n → whole ≡ narrow (rest_added factors so_far i n)
    → narrow (product_of (factors i)) ≡ Some (Ok p) → narrow (made (λ f. f) (added so_far p)) ≡ Some (Ok next) → whole ≡ narrow (rest_added factors next (i + 1) n)
dot_goes factors whole so_far i n p next h all e sum =
    tried_goes product_added whole so_far _ (factors i) _ next (rest_from_place factors i n h) all (added_answers so_far p (factors i) (Ok next) e sum)

-- a product without a value
pub dot_product_stops : (factors : ℕ → List AffineForm) (whole : Trial AffineForm) (so_far : AffineForm) (i n : ℕ) (e : OpRefusal) (r : Result AffineForm OpRefusal) → i < n
    → narrow whole ≡ narrow (rest_added factors so_far i n) → IsErrAnd r (λ s. s ≡ e) → Answers (product_of (factors i)) (Err e) → Answers whole r
dot_product_stops factors whole so_far i n e r h all is part =
    refused (product_of (factors i)) whole e r is part
    (λ o none. tried_stops product_added (narrow whole) so_far _ (factors i) _ o (rest_from_place factors i n h) all (follows_then (product_of (factors i)) (λ p. made (λ f. f) (added so_far p)) o none))

-- a sum that isn't narrow
pub dot_sum_stops : (factors : ℕ → List AffineForm) (whole : Trial AffineForm) (so_far : AffineForm) (i n : ℕ) (p : AffineForm) (e : OpRefusal) (r : Result AffineForm OpRefusal) → i < n
    → narrow whole ≡ narrow (rest_added factors so_far i n) → IsErrAnd r (λ s. s ≡ e) → narrow (product_of (factors i)) ≡ Some (Ok p) → Answers (made (λ f. f) (added so_far p)) (Err e) → Answers whole r
dot_sum_stops factors whole so_far i n p e r h all is product sum =
    refused (product_added so_far (factors i)) whole e r is (added_answers so_far p (factors i) (Err e) product sum)
    (λ o none. tried_stops product_added (narrow whole) so_far _ (factors i) _ o (rest_from_place factors i n h) all none)

-- at the end
pub dot_end : (factors : ℕ → List AffineForm) (whole : Option (Result AffineForm Refusal)) (so_far : AffineForm) (i n : ℕ) → n ≤ i → whole ≡ narrow (rest_added factors so_far i n) → whole ≡ Some (Ok so_far)
dot_end factors whole so_far i n h all = all ∙ ap (λ r. narrow (through_tried product_added so_far (map factors r))) (from_end i n h)
