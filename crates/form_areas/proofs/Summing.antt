-- Sums that are made in place.
use Rattle.std.proofs.Common.{◌≡◌, refl, sym, ap, ◌∙◌, subst, List, [], ◌∷◌, ◌++◌, Option, Some, None, Result, Ok, Err}
use Rattle.std.specs.Option.{option_and_then}
use Rattle.std.specs.Result.{IsErrAnd, result_map_both}
use Rattle.calculations.specs.Calculation.{Calculation, followed_by, narrow, through}
use Rattle.calculations.proofs.CalculationLaws.{narrow-followed_by}
use Rattle.affine_forms.specs.Answers.{Answers}
use Rattle.affine_forms.specs.Forms.{AffineForm}
use Rattle.affine_forms.specs.Steps.{added}
use Rattle.affine_forms.specs.declared.stop.FormStop.{FormStop}
use Rattle.affine_forms.specs.declared.stop.FormStop.TheVariants as stop

-- ---- one list and then another
by_next : {B : Type 0} (whole front behind : B → Option B) (o : Option B) → ((n : B) → whole n ≡ option_and_then behind (front n)) → option_and_then whole o ≡ option_and_then behind (option_and_then front o)
by_next whole front behind None h = refl
by_next whole front behind (Some n) h = h n

through-append : {A B : Type 0} (f : B → A → Calculation B) (so_far : B) (xs ys : List A)
    → narrow (through f so_far (xs ++ ys)) ≡ option_and_then (λ next. narrow (through f next ys)) (narrow (through f so_far xs))
through-append f so_far [] ys = refl
through-append f so_far (x ∷ xs) ys =
    narrow-followed_by (f so_far x) (λ next. through f next (xs ++ ys))
    ∙ by_next (λ next. narrow (through f next (xs ++ ys))) (λ next. narrow (through f next xs)) (λ next. narrow (through f next ys)) (narrow (f so_far x)) (λ n. through-append f n xs ys)
    ∙ ap (option_and_then (λ next. narrow (through f next ys))) (sym (narrow-followed_by (f so_far x) (λ next. through f next xs)))

-- the front of what is left, and then what is behind it
pub part_goes : {A B : Type 0} (f : B → A → Calculation B) (whole : Option B) (so_far : B) (rest front behind : List A) (next : B) → rest ≡ front ++ behind
    → whole ≡ narrow (through f so_far rest) → narrow (through f so_far front) ≡ Some next → whole ≡ narrow (through f next behind)
part_goes f whole so_far rest front behind next e all h =
    all ∙ ap (λ xs. narrow (through f so_far xs)) e ∙ through-append f so_far front behind ∙ ap (option_and_then (λ n. narrow (through f n behind))) h

pub part_stops : {A B : Type 0} (f : B → A → Calculation B) (whole : Option B) (so_far : B) (rest front behind : List A) → rest ≡ front ++ behind
    → whole ≡ narrow (through f so_far rest) → narrow (through f so_far front) ≡ None → whole ≡ None
part_stops f whole so_far rest front behind e all h =
    all ∙ ap (λ xs. narrow (through f so_far xs)) e ∙ through-append f so_far front behind ∙ ap (option_and_then (λ n. narrow (through f n behind))) h

-- ---- answers
-- those of one calculation, of another with the same answer
pub same_forms : {A : Type 0} (c d : Calculation A) (r : Result A FormStop) → narrow d ≡ narrow c → Answers c r → Answers d r
same_forms c d (Ok a) e h = e ∙ h
same_forms c d (Err stop.Wide) e h = e ∙ h
same_forms c d (Err stop.Memory) e h = tt

-- a calculation with a value, and then another
pub then_forms : {A B : Type 0} (c : Calculation A) (f : A → Calculation B) (a : A) (r : Result B FormStop) → narrow c ≡ Some a → Answers (f a) r → Answers (followed_by c f) r
then_forms c f a r e h = same_forms (f a) (followed_by c f) r (narrow-followed_by c f ∙ ap (option_and_then (λ b. narrow (f b))) e) h

pub then_stops : {A B : Type 0} (c : Calculation A) (f : A → Calculation B) (e : FormStop) → Answers c (Err e) → Answers (followed_by c f) (Err e)
then_stops c f stop.Wide h = narrow-followed_by c f ∙ ap (option_and_then (λ b. narrow (f b))) h
then_stops c f stop.Memory h = tt

-- one form
pub one_added : (so_far f : AffineForm) (r : Result AffineForm FormStop) → Answers (added so_far f) r → Answers (through added so_far (f ∷ [])) r
one_added so_far f r h = same_forms (added so_far f) (through added so_far (f ∷ [])) r (narrow-followed_by (added so_far f) (λ next. through added next []) ∙ unchanged (narrow (added so_far f))) h
  where
    unchanged : (o : Option AffineForm) → option_and_then (λ next. narrow (through added next [])) o ≡ o
    unchanged None = refl
    unchanged (Some n) = refl

-- a part's stop is the whole's
stops_whole : {A B : Type 0} (part : Calculation A) (whole : Calculation B) (e : FormStop) → Answers part (Err e) → (narrow part ≡ None → narrow whole ≡ None) → Answers whole (Err e)
stops_whole part whole stop.Wide h wide = wide h
stops_whole part whole stop.Memory h wide = tt

pub stopped : {A B : Type 0} (part : Calculation A) (whole : Calculation B) (e : FormStop) (r : Result B FormStop) → IsErrAnd r (λ s. s ≡ e)
    → Answers part (Err e) → (narrow part ≡ None → narrow whole ≡ None) → Answers whole r
stopped part whole e (Ok x) is h wide = absurd is
stopped part whole e (Err s) is h wide = subst (λ t. Answers whole (Err t)) (sym is) (stops_whole part whole e h wide)

-- the same of what is made in place
pub stopped_in_place : {A B T : Type 0} (part : Calculation A) (whole : Calculation B) (new : T → B) (e : FormStop) (r : Result T FormStop) → IsErrAnd r (λ s. s ≡ e)
    → Answers part (Err e) → (narrow part ≡ None → narrow whole ≡ None) → Answers whole (result_map_both new (λ s. s) r)
stopped_in_place part whole new e (Ok x) is h wide = absurd is
stopped_in_place part whole new e (Err s) is h wide = subst (λ t. Answers whole (Err t)) (sym is) (stops_whole part whole e h wide)
