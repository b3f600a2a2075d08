-- The items of some arguments, their errors and their numbers.
use Rattle.std.proofs.Common.{◌≡◌, ◌≢◌, refl, sym, ap, ◌∙◌, subst, false, List, [], ◌∷◌, ◌++◌, length, Option, Some, None, Result, Ok, Err}
use Rattle.std.specs.Prelude.{flat_map, option_to_list}
use Rattle.std.specs.List.{filter_map}
use Rattle.std.specs.Result.{result_map_both}
use Rattle.std.proofs.lemmas.List.Elements.{filter_map-append}
use Rattle.fractions.specs.Rational.{ℚ, inv_ℚ}
use Rattle.calculations.specs.Calculation.{followed_by, narrow, through}
use Rattle.cell_refs.specs.declared.error_kind.ErrorKind.{ErrorKind}
use Rattle.cell_refs.specs.declared.error_kind.ErrorKind.TheVariants as kind
use Rattle.sheet_model.specs.declared.value.Value.TheVariants.{Number, Text, Logical, Empty, Error}
use Rattle.sheet_funcs.specs.Sums.{how_many}
use Rattle.affine_forms.specs.Answers as forms
use Rattle.affine_forms.specs.Forms.{AffineForm}
use Rattle.affine_forms.specs.Steps.{added, scaled, total}
use Rattle.affine_forms.specs.declared.stop.FormStop.{FormStop}
use Rattle.form_values.specs.Entries.{entry}
use Rattle.form_values.specs.Trials.{Trial, Answers, fault, made, one}
use Rattle.form_values.specs.declared.abs.Abs.{Abs}
use Rattle.form_values.specs.declared.abs.Abs.TheVariants.{Known, Affine, Test}
use Rattle.form_values.specs.declared.abs.AbsArg.{AbsArg}
use Rattle.form_values.specs.declared.abs.AbsArg.TheVariants.{One}
use Rattle.form_values.specs.declared.refusal.OpRefusal.{OpRefusal}
use Rattle.form_table.specs.Wanted.{Wanted, form, open_test, none, of_number}
use Rattle.form_table.specs.Items.{first_error, first_open, form_in, forms_of, has_open, item_at, items_in, mean, of_items, on_items}
use Rattle.form_table.specs.Products.{error_among}
use Rattle.form_ops.proofs.Answering.{form_answers, same_answers, then_answers}
use Rattle.form_ops.specs.Refusals.{form_refusal}
use Rattle.form_areas.proofs.Summing.{one_added, then_forms, then_stops}

-- ---- errors
abbrev sooner : Option ErrorKind → Option ErrorKind → Option ErrorKind
sooner (Some k) later = Some k
sooner None later = later

error-append : (xs ys : List Wanted) → first_error (xs ++ ys) ≡ sooner (first_error xs) (first_error ys)
error-append [] ys = refl
error-append (none k ∷ xs) ys = refl
error-append (open_test ∷ xs) ys = error-append xs ys
error-append (form f ∷ xs) ys = error-append xs ys

-- the error of the first argument, or of the others
pub argument_first : (whole : Option ErrorKind) (rest : List AbsArg) (a : AbsArg) (others : List AbsArg) (o : Option ErrorKind) → rest ≡ a ∷ others
    → whole ≡ first_error (flat_map items_in rest) → o ≡ first_error (items_in a) → whole ≡ sooner o (first_error (flat_map items_in others))
argument_first whole rest a others o e all found =
    all ∙ ap (λ xs. first_error (flat_map items_in xs)) e ∙ error-append (items_in a) (flat_map items_in others) ∙ ap (λ p. sooner p (first_error (flat_map items_in others))) (sym found)

-- of an area it is that of its elements
pub area_error : (items : List Abs) → error_among items ≡ first_error (filter_map item_at items)
area_error [] = refl
area_error (Known (Number x) ∷ items) = area_error items
area_error (Known (Error k) ∷ items) = refl
area_error (Known (Text t) ∷ items) = area_error items
area_error (Known (Logical b) ∷ items) = area_error items
area_error (Known Empty ∷ items) = area_error items
area_error (Affine f ∷ items) = area_error items
area_error (Test f r ∷ items) = area_error items

-- ---- open logicals
pub area_closed : (items : List Abs) → has_open (filter_map item_at items) ≡ false
area_closed [] = refl
area_closed (Known (Number x) ∷ items) = area_closed items
area_closed (Known (Error k) ∷ items) = area_closed items
area_closed (Known (Text t) ∷ items) = area_closed items
area_closed (Known (Logical b) ∷ items) = area_closed items
area_closed (Known Empty ∷ items) = area_closed items
area_closed (Affine f ∷ items) = area_closed items
area_closed (Test f r ∷ items) = area_closed items

pub number_closed : (r : Result ℚ ErrorKind) → has_open (of_number r ∷ []) ≡ false
number_closed (Ok x) = refl
number_closed (Err k) = refl

-- ---- numbers
-- those of the first argument, and then those of the others
pub forms_first : (rest : List AbsArg) (a : AbsArg) (others : List AbsArg) → rest ≡ a ∷ others → forms_of rest ≡ filter_map form_in (items_in a) ++ forms_of others
forms_first rest a others e = ap forms_of e ∙ filter_map-append form_in (items_in a) (flat_map items_in others)

-- the same of elements
abbrev pub numbers_at : List Abs → List AffineForm
numbers_at items = filter_map form_in (filter_map item_at items)

by_item : (o : Option Wanted) (ws : List Wanted) → filter_map form_in (Rattle.std.specs.List.cons_option o ws) ≡ filter_map form_in (option_to_list o) ++ filter_map form_in ws
by_item None ws = refl
by_item (Some (form f)) ws = refl
by_item (Some open_test) ws = refl
by_item (Some (none k)) ws = refl

pub numbers_first : (rest : List Abs) (a : Abs) (others : List Abs) → rest ≡ a ∷ others → numbers_at rest ≡ filter_map form_in (option_to_list (item_at a)) ++ numbers_at others
numbers_first rest a others e = ap numbers_at e ∙ by_item (item_at a) (filter_map item_at others)

-- one item
pub one_item : (w : Wanted) → option_to_list (form_in w) ≡ filter_map form_in (w ∷ [])
one_item (form f) = refl
one_item open_test = refl
one_item (none k) = refl

-- what is added of what stands where a number is wanted, and of an element
pub operand_added : (so_far : AffineForm) (w : Wanted) (f : AffineForm) (r : Result AffineForm FormStop) → w ≡ form f → forms.Answers (added so_far f) r
    → forms.Answers (through added so_far (option_to_list (form_in w))) r
operand_added so_far w f r e h = subst (λ v. forms.Answers (through added so_far (option_to_list (form_in v))) r) (sym e) (one_added so_far f r h)

pub element_added : (so_far : AffineForm) (a : Abs) (f : AffineForm) (r : Result AffineForm FormStop) → item_at a ≡ Some (form f) → forms.Answers (added so_far f) r
    → forms.Answers (through added so_far (filter_map form_in (option_to_list (item_at a)))) r
element_added so_far a f r e h = subst (λ o. forms.Answers (through added so_far (filter_map form_in (option_to_list o))) r) (sym e) (one_added so_far f r h)

-- ---- what is made of items
pub items_fail : (args : List AbsArg) (f : List AffineForm → Trial Abs) (k : ErrorKind) → Some k ≡ first_error (flat_map items_in args) → narrow (of_items args f) ≡ Some (Ok (One (Known (Error k))))
items_fail args f k e = ap (λ o. narrow (on_items o (first_open 0 args) (f (forms_of args)))) (sym e)

pub items_given : (args : List AbsArg) (f : List AffineForm → Trial Abs) (r : Result Abs OpRefusal) → None ≡ first_error (flat_map items_in args) → None ≡ first_open 0 args
    → Answers (f (forms_of args)) r → Answers (of_items args f) (result_map_both One (λ s. s) r)
items_given args f r e i h =
    same_answers (one (f (forms_of args))) (of_items args f) (result_map_both One (λ s. s) r)
    (ap (λ o. narrow (on_items o (first_open 0 args) (f (forms_of args)))) (sym e) ∙ ap (λ o. narrow (on_items None o (f (forms_of args)))) (sym i))
    (then_answers One (f (forms_of args)) r h)

-- ---- means
pub mean_of_none : (fs : List AffineForm) → length fs ≡ 0 → mean fs ≡ fault kind.Div0
mean_of_none [] e = refl
mean_of_none (f ∷ fs) e = cc

mean_of_some : (fs : List AffineForm) → length fs ≢ 0 → mean fs ≡ made entry (followed_by (total fs) (scaled (inv_ℚ (how_many fs))))
mean_of_some [] n = absurd (n refl)
mean_of_some (f ∷ fs) n = refl

pub mean_given : (fs : List AffineForm) (t : AffineForm) (k : ℚ) (r : Result AffineForm FormStop) → length fs ≢ 0 → narrow (total fs) ≡ Some t → k ≡ inv_ℚ (how_many fs) → forms.Answers (scaled k t) r
    → Answers (mean fs) (result_map_both entry form_refusal r)
mean_given fs t k r n e same h =
    same_answers (made entry (followed_by (total fs) (scaled (inv_ℚ (how_many fs))))) (mean fs) (result_map_both entry form_refusal r) (ap narrow (mean_of_some fs n))
    (form_answers entry (followed_by (total fs) (scaled (inv_ℚ (how_many fs)))) r
    (then_forms (total fs) (scaled (inv_ℚ (how_many fs))) t r e (subst (λ q. forms.Answers (scaled q t) r) same h)))

pub mean_stops : (fs : List AffineForm) (e : FormStop) → length fs ≢ 0 → forms.Answers (total fs) (Err e) → Answers (mean fs) (Err (form_refusal e))
mean_stops fs e n h =
    same_answers (made entry (followed_by (total fs) (scaled (inv_ℚ (how_many fs))))) (mean fs) (Err (form_refusal e)) (ap narrow (mean_of_some fs n))
    (form_answers entry (followed_by (total fs) (scaled (inv_ℚ (how_many fs)))) (Err e) (then_stops (total fs) (scaled (inv_ℚ (how_many fs))) e h))
