-- What code answers, as the answer of a trial.
use Rattle.std.specs.Prelude.{IsTrue}
use Rattle.std.proofs.Common.{◌≡◌, ◌↔◌, Bool, true, false, refl, sym, ap, ◌∙◌, subst, Option, Some, None, Result, Ok, Err}
use Rattle.std.specs.Option.{option_and_then, option_map}
use Rattle.std.specs.Result.{result_map_both}
use Rattle.std.proofs.lemmas.Option.{none-some, same_Some}
use Rattle.fractions.specs.Rational.{ℚ, inv_ℚ}
use Rattle.calculations.specs.Calculation.{Calculation, narrow, turned_into}
use Rattle.calculations.proofs.CalculationLaws.{narrow-turned_into, narrow-followed_by}
use Rattle.affine_forms.specs.Answers as forms
use Rattle.affine_forms.specs.Forms.{AffineForm, same_form}
use Rattle.affine_forms.proofs.Multiples.{same_form_is, same_form_refl}
use Rattle.sheet_model.proofs.NumberTests.{same_test}
use Rattle.form_table.specs.Choosing.{differ_by_multiple, if_multiple, branch_where}
use Rattle.affine_forms.specs.Steps.{scaled, subtracted, multiple_of}
use Rattle.affine_forms.specs.declared.stop.FormStop.{FormStop}
use Rattle.affine_forms.specs.declared.stop.FormStop.TheVariants as form_stop
use Rattle.sheet_model.specs.Answers as functions
use Rattle.sheet_model.specs.declared.stop.FuncStop.{FuncStop}
use Rattle.sheet_model.specs.declared.stop.FuncStop.TheVariants as function_stop
use Rattle.sheet_model.specs.declared.grid.Arg.{Arg}
use Rattle.sheet_model.specs.declared.grid.Arg.TheVariants as arg
use Rattle.sheet_model.specs.declared.value.Value.{Value}
use Rattle.form_values.specs.Entries.{entry, test}
use Rattle.form_values.specs.Trials.{Trial, Refusal, Breaks, Undecided, Answers, made, and_then, given, on_given}
use Rattle.form_values.specs.declared.refusal.OpRefusal.{OpRefusal}
use Rattle.form_values.specs.declared.refusal.OpRefusal.TheVariants as refusal
use Rattle.form_values.specs.declared.open_form.Open.{Open}
use Rattle.form_values.specs.declared.abs.Abs.{Abs}
use Rattle.form_values.specs.declared.abs.Abs.TheVariants.{Known, Affine, Test}
use Rattle.form_values.specs.declared.abs.AbsArg.{AbsArg}
use Rattle.affine_forms.specs.declared.rel.Rel.{Rel}
use Rattle.cell_refs.specs.declared.op.Op.{Op}
use Rattle.form_table.specs.Wanted.{constant_of, single}
use Rattle.form_table.specs.Operators.{product_row, quotient_row, by_constants, divided_by, multiplied, infix_abs, infix_form, on_pairs, comparable, compared_row, compared_sides, relation_of}
use Rattle.form_ops.specs.Refusals.{form_refusal, function_refusal, only_known}

-- trials of one answer on narrow numbers
pub same_answers : {A : Type 0} (c d : Trial A) (r : Result A OpRefusal) → narrow d ≡ narrow c → Answers c r → Answers d r
same_answers c d (Ok a) e h = e ∙ h
same_answers c d (Err refusal.Break) e h = e ∙ h
same_answers c d (Err (refusal.Undecided i)) e h = e ∙ h
same_answers c d (Err refusal.Wide) e h = e ∙ h
same_answers c d (Err refusal.Memory) e h = tt

-- a calculated form, made a value
pub form_answers : (g : AffineForm → Abs) (c : Calculation AffineForm) (answer : Result AffineForm FormStop) → forms.Answers c answer
    → Answers (made g c) (result_map_both g form_refusal answer)
form_answers g c (Ok f) h = narrow-turned_into (λ a. Ok (g a)) c ∙ ap (option_map (λ a. Ok (g a))) h
form_answers g c (Err form_stop.Wide) h = narrow-turned_into (λ a. Ok (g a)) c ∙ ap (option_map (λ a. Ok (g a))) h
form_answers g c (Err form_stop.Memory) h = tt

-- what an operator gives of known values, made a value
abbrev known_value : Value → Result Abs Refusal
known_value v = Ok (Known v)

known_found : (o : Option Value) (a : Arg) → option_map arg.One o ≡ Some a → option_map known_value o ≡ Some (Ok (only_known a))
known_found None a e = absurd (none-some a e)
known_found (Some v) a e = ap (λ x. Some (Ok (only_known x))) (same_Some (arg.One v) a e)

known_missing : (o : Option Value) → option_map arg.One o ≡ None → option_map known_value o ≡ None
known_missing None e = refl
known_missing (Some v) e = absurd (none-some (arg.One v) (sym e))

pub known_answers : (c : Calculation Value) (answer : Result Arg FuncStop) → functions.Answers (turned_into arg.One c) answer
    → Answers (made Known c) (result_map_both only_known function_refusal answer)
known_answers c (Ok a) h = narrow-turned_into known_value c ∙ known_found (narrow c) a (sym (narrow-turned_into arg.One c) ∙ h)
known_answers c (Err function_stop.Wide) h = narrow-turned_into known_value c ∙ known_missing (narrow c) (sym (narrow-turned_into arg.One c) ∙ h)
known_answers c (Err function_stop.Memory) h = tt

-- one trial and then another, by the answer of the first
pub narrow-and_then : {A B : Type 0} (c : Trial A) (f : A → Trial B) (o : Option (Result A Refusal)) → narrow c ≡ o
    → narrow (and_then c f) ≡ option_and_then (λ r. narrow (on_given r f)) o
narrow-and_then c f o e = narrow-followed_by c (λ r. on_given r f) ∙ ap (option_and_then (λ r. narrow (on_given r f))) e

-- the value of a trial, made another
pub then_answers : {A B : Type 0} (g : A → B) (c : Trial A) (answer : Result A OpRefusal) → Answers c answer
    → Answers (and_then c (λ a. given (g a))) (result_map_both g (λ r. r) answer)
then_answers g c (Ok a) h = narrow-and_then c (λ a. given (g a)) (Some (Ok a)) h
then_answers g c (Err refusal.Break) h = narrow-and_then c (λ a. given (g a)) (Some (Err Breaks)) h
then_answers g c (Err (refusal.Undecided i)) h = narrow-and_then c (λ a. given (g a)) (Some (Err (Undecided i))) h
then_answers g c (Err refusal.Wide) h = narrow-and_then c (λ a. given (g a)) None h
then_answers g c (Err refusal.Memory) h = tt

-- ---- products and quotients
-- a multiple made a value in two steps
multiple_made : (c : Calculation AffineForm) → narrow (and_then (made (λ h. h) c) (λ h. given (entry h))) ≡ narrow (made entry c)
multiple_made c =
    narrow-and_then (made (λ h. h) c) (λ h. given (entry h)) (option_map (λ a. Ok a) (narrow c)) (narrow-turned_into (λ a. Ok a) c)
    ∙ by_answer (narrow c) ∙ sym (narrow-turned_into (λ a. Ok (entry a)) c)
  where
    by_answer : (o : Option AffineForm) → option_and_then (λ r. narrow (on_given r (λ h. given (entry h)))) (option_map (λ a. Ok a) o) ≡ option_map (λ a. Ok (entry a)) o
    by_answer None = refl
    by_answer (Some a) = refl

-- the first factor is known
pub first_known : (f g : AffineForm) (k : ℚ) (r : Result Abs OpRefusal) → constant_of f ≡ Some k → Answers (made entry (scaled k g)) r → Answers (product_row f g) r
first_known f g k r e =
    same_answers (made entry (scaled k g)) (product_row f g) r
    (ap (λ o. narrow (and_then (by_constants f g o (constant_of g)) (λ h. given (entry h)))) e ∙ multiple_made (scaled k g))

-- the second alone is known
pub second_known : (f g : AffineForm) (k : ℚ) (r : Result Abs OpRefusal) → constant_of f ≡ None → constant_of g ≡ Some k → Answers (made entry (scaled k f)) r
    → Answers (product_row f g) r
second_known f g k r none e =
    same_answers (made entry (scaled k f)) (product_row f g) r
    (ap (λ o. narrow (and_then (by_constants f g o (constant_of g)) (λ h. given (entry h)))) none
    ∙ ap (λ o. narrow (and_then (by_constants f g None o) (λ h. given (entry h)))) e ∙ multiple_made (scaled k f))

-- the same multiple
pub same_multiple : (i j : ℚ) (f : AffineForm) (r : Result Abs OpRefusal) → i ≡ j → Answers (made entry (scaled i f)) r → Answers (multiplied j f) r
same_multiple i j f r e = subst (λ k. Answers (multiplied k f) r) e

-- the divisor is known
pub divisor_known : (f g : AffineForm) (k i : ℚ) (r : Result Abs OpRefusal) → constant_of g ≡ Some k → i ≡ inv_ℚ k → Answers (made entry (scaled i f)) r → Answers (quotient_row f g) r
divisor_known f g k i r e same h =
    same_answers (multiplied (inv_ℚ k) f) (quotient_row f g) r (ap (λ o. narrow (divided_by f o)) e) (same_multiple i (inv_ℚ k) f r same h)

-- ---- operators on what they take of their arguments
pub infix_answers : (o : Op) (a b s t : AbsArg) (r : Result AbsArg OpRefusal) → s ≡ single a → t ≡ single b → Answers (on_pairs (infix_abs o) s t) r → Answers (infix_form o a b) r
infix_answers o a b s t r e f h =
    subst (λ u. Answers (on_pairs (infix_abs o) u (single b)) r) e (subst (λ v. Answers (on_pairs (infix_abs o) s v) r) f h)

-- ---- comparisons
-- two numbers
pub compared_numbers : (o : Op) (x y : Option AffineForm) (f g : AffineForm) (r : Result Abs OpRefusal) → x ≡ Some f → y ≡ Some g
    → Answers (made (test (relation_of o)) (subtracted f g)) r → Answers (compared_sides o x y) r
compared_numbers o x y f g r d e h =
    same_answers (compared_sides o (Some f) (Some g)) (compared_sides o x y) r
    (ap (λ z. narrow (compared_sides o z y)) d ∙ ap (λ z. narrow (compared_sides o (Some f) z)) e) h

-- two values that are no open logicals
no_test : (o : Op) (a b : Abs) → ((f : Open) (r : Rel) → a ≡ Test f r → ⊥) → ((f : Open) (r : Rel) → b ≡ Test f r → ⊥)
    → compared_row o a b ≡ compared_sides o (comparable a) (comparable b)
no_test o (Test f r) b m n = absurd (m f r refl)
no_test o (Known v) (Known w) m n = refl
no_test o (Known v) (Affine g) m n = refl
no_test o (Known v) (Test g r) m n = absurd (n g r refl)
no_test o (Affine f) (Known w) m n = refl
no_test o (Affine f) (Affine g) m n = refl
no_test o (Affine f) (Test g r) m n = absurd (n g r refl)

pub compared_answers : (o : Op) (a b : Abs) (x y : Option AffineForm) (r : Result Abs OpRefusal)
    → ((f : Open) (s : Rel) → a ≡ Test f s → ⊥) → ((f : Open) (s : Rel) → b ≡ Test f s → ⊥) → x ≡ comparable a → y ≡ comparable b
    → Answers (compared_sides o x y) r → Answers (compared_row o a b) r
compared_answers o a b x y r m n d e h =
    same_answers (compared_sides o x y) (compared_row o a b) r
    (ap narrow (no_test o a b m n) ∙ sym (ap (λ z. narrow (compared_sides o z (comparable b))) d) ∙ sym (ap (λ z. narrow (compared_sides o x z)) e)) h

-- ---- multiples of a tested form
-- the difference has no value
pub difference_stops : (t f g : AffineForm) (stop : FormStop) → forms.Answers (subtracted f g) (Err stop) → Answers (made (λ b. b) (differ_by_multiple t f g)) (Err (form_refusal stop))
difference_stops t f g form_stop.Wide h =
    narrow-turned_into (λ b. Ok b) (differ_by_multiple t f g)
    ∙ ap (option_map (λ b. Ok b)) (narrow-followed_by (subtracted f g) (λ d. multiple_of d t) ∙ ap (option_and_then (λ d. narrow (multiple_of d t))) h)
difference_stops t f g form_stop.Memory h = tt

-- the difference is compared with the tested form
pub difference_compared : (t f g d : AffineForm) (o : Option Bool) → narrow (subtracted f g) ≡ Some d → narrow (multiple_of d t) ≡ o
    → narrow (made (λ b. b) (differ_by_multiple t f g)) ≡ option_map (λ b. Ok b) o
difference_compared t f g d o h e =
    narrow-turned_into (λ b. Ok b) (differ_by_multiple t f g)
    ∙ ap (option_map (λ b. Ok b)) (narrow-followed_by (subtracted f g) (λ d. multiple_of d t) ∙ ap (option_and_then (λ d. narrow (multiple_of d t))) h ∙ e)

-- what is made of the comparison
pub branch_given : (t f g : AffineForm) (branch copy : AbsArg) → narrow (made (λ b. b) (differ_by_multiple t f g)) ≡ Some (Ok true) → copy ≡ branch → narrow (branch_where t branch f g) ≡ Some (Ok copy)
branch_given t f g branch copy h e = narrow-and_then (made (λ b. b) (differ_by_multiple t f g)) (if_multiple branch) (Some (Ok true)) h ∙ ap (λ a. Some (Ok a)) (sym e)

pub branch_breaks : (t f g : AffineForm) (branch : AbsArg) → narrow (made (λ b. b) (differ_by_multiple t f g)) ≡ Some (Ok false) → narrow (branch_where t branch f g) ≡ Some (Err Breaks)
branch_breaks t f g branch h = narrow-and_then (made (λ b. b) (differ_by_multiple t f g)) (if_multiple branch) (Some (Ok false)) h

-- a test of equality is the one of forms
pub same_form_told : (b : Bool) (f g : AffineForm) → IsTrue b ↔ (f ≡ g) → b ≡ same_form f g
same_form_told b f g i = same_test b (same_form f g) (f ≡ g) i (same_form_is f g, same_form_refl f g)
