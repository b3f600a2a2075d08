-- What is made of all numbers is what is made of what is taken of them.
use Rattle.std.proofs.Common.{◌≡◌, refl, sym, ap, ◌∙◌, ℕ, ◌+◌, Bool, true, false, if◌then◌else◌, List, [], ◌∷◌, ◌++◌, Option, Some, None}
use Rattle.std.specs.Prelude.{unwrap_or, flat_map}
use Rattle.std.specs.List.{filter_map}
use Rattle.std.proofs.lemmas.List.Elements.{filter_map-append}
use Rattle.affine_forms.specs.Forms.{AffineForm, same_terms}
use Rattle.form_values.specs.Trials.{breaks}
use Rattle.form_values.specs.declared.abs.AbsArg.{AbsArg}
use Rattle.form_table.specs.Wanted.{Wanted, form, open_test, none}
use Rattle.form_table.specs.Items.{items_in, first_error, has_open, first_open, form_in, forms_of, extreme, extreme_of, of_items, on_items}
use Rattle.form_ops.specs.declared.extremes.Extremum.{Extremum}
use Rattle.form_ops.specs.declared.extremes.Best.{Best}
use Rattle.form_ops.specs.declared.extremes.Best.TheVariants.{Nothing, Found, Bent}
use Rattle.form_ops.specs.declared.extremes.Taken.{Taken}
use Rattle.form_ops.specs.SeenNumbers.{is_better, best_with, untaken, taken_one, taken_all, taken_args, of_best, of_taken}

-- ---- the first of two
abbrev first_of : {A : Type 0} → Option A → Option A → Option A
first_of (Some k) o = Some k
first_of None o = o

first_of-none : {A : Type 0} (o : Option A) → o ≡ first_of o None
first_of-none (Some k) = refl
first_of-none None = refl

first_of-some : {A : Type 0} (o : Option A) (k : A) → Some (unwrap_or o k) ≡ first_of o (Some k)
first_of-some (Some j) k = refl
first_of-some None k = refl

first_of_assoc : {A : Type 0} (o p q : Option A) → first_of (first_of o p) q ≡ first_of o (first_of p q)
first_of_assoc (Some k) p q = refl
first_of_assoc None p q = refl

-- ---- what is taken of a list, part by part
error_taken : (e : Extremum) (i : ℕ) (ws : List Wanted) (s : Taken) → (taken_all e i s ws).error ≡ first_of s.error (first_error ws)
error_taken e i [] s = first_of-none s.error
error_taken e i (none k ∷ ws) s = error_taken e i ws (taken_one e i s (none k)) ∙ first_of-some s.error k
error_taken e i (open_test ∷ ws) s = error_taken e i ws (taken_one e i s open_test)
error_taken e i (form f ∷ ws) s = error_taken e i ws (taken_one e i s (form f))

abbrev open_at : ℕ → Bool → Option ℕ
open_at i b = if b then Some i else None

test_taken : (e : Extremum) (i : ℕ) (ws : List Wanted) (s : Taken) → (taken_all e i s ws).test ≡ first_of s.test (open_at i (has_open ws))
test_taken e i [] s = first_of-none s.test
test_taken e i (none k ∷ ws) s = test_taken e i ws (taken_one e i s (none k))
test_taken e i (open_test ∷ ws) s = test_taken e i ws (taken_one e i s open_test) ∙ first_of-some s.test i
test_taken e i (form f ∷ ws) s = test_taken e i ws (taken_one e i s (form f))

abbrev best_all : Extremum → Best → List AffineForm → Best
best_all e b [] = b
best_all e b (f ∷ fs) = best_all e (best_with e b f) fs

best_taken : (e : Extremum) (i : ℕ) (ws : List Wanted) (s : Taken) → (taken_all e i s ws).best ≡ best_all e s.best (filter_map form_in ws)
best_taken e i [] s = refl
best_taken e i (none k ∷ ws) s = best_taken e i ws (taken_one e i s (none k))
best_taken e i (open_test ∷ ws) s = best_taken e i ws (taken_one e i s open_test)
best_taken e i (form f ∷ ws) s = best_taken e i ws (taken_one e i s (form f))

-- ---- of all arguments
first_error-append : (ws vs : List Wanted) → first_error (ws ++ vs) ≡ first_of (first_error ws) (first_error vs)
first_error-append [] vs = refl
first_error-append (none k ∷ ws) vs = refl
first_error-append (open_test ∷ ws) vs = first_error-append ws vs
first_error-append (form f ∷ ws) vs = first_error-append ws vs

error_of_all : (e : Extremum) (i : ℕ) (args : List AbsArg) (s : Taken) → (taken_args e i s args).error ≡ first_of s.error (first_error (flat_map items_in args))
error_of_all e i [] s = first_of-none s.error
error_of_all e i (a ∷ args) s =
    error_of_all e (i + 1) args (taken_all e i s (items_in a))
    ∙ ap (λ o. first_of o (first_error (flat_map items_in args))) (error_taken e i (items_in a) s)
    ∙ first_of_assoc s.error (first_error (items_in a)) (first_error (flat_map items_in args))
    ∙ ap (first_of s.error) (sym (first_error-append (items_in a) (flat_map items_in args)))

open_or_later : (i : ℕ) (b : Bool) (o : Option ℕ) → first_of (open_at i b) o ≡ (if b then Some i else o)
open_or_later i true o = refl
open_or_later i false o = refl

test_of_all : (e : Extremum) (i : ℕ) (args : List AbsArg) (s : Taken) → (taken_args e i s args).test ≡ first_of s.test (first_open i args)
test_of_all e i [] s = first_of-none s.test
test_of_all e i (a ∷ args) s =
    test_of_all e (i + 1) args (taken_all e i s (items_in a))
    ∙ ap (λ o. first_of o (first_open (i + 1) args)) (test_taken e i (items_in a) s)
    ∙ first_of_assoc s.test (open_at i (has_open (items_in a))) (first_open (i + 1) args)
    ∙ ap (first_of s.test) (open_or_later i (has_open (items_in a)) (first_open (i + 1) args))

best_all-append : (e : Extremum) (b : Best) (fs gs : List AffineForm) → best_all e b (fs ++ gs) ≡ best_all e (best_all e b fs) gs
best_all-append e b [] gs = refl
best_all-append e b (f ∷ fs) gs = best_all-append e (best_with e b f) fs gs

best_of_all : (e : Extremum) (i : ℕ) (args : List AbsArg) (s : Taken) → (taken_args e i s args).best ≡ best_all e s.best (forms_of args)
best_of_all e i [] s = refl
best_of_all e i (a ∷ args) s =
    best_of_all e (i + 1) args (taken_all e i s (items_in a))
    ∙ ap (λ b. best_all e b (forms_of args)) (best_taken e i (items_in a) s)
    ∙ sym (best_all-append e s.best (filter_map form_in (items_in a)) (forms_of args))
    ∙ ap (best_all e s.best) (sym (filter_map-append form_in (items_in a) (flat_map items_in args)))

-- ---- the best
bent_stays : (e : Extremum) (fs : List AffineForm) → best_all e Bent fs ≡ Bent
bent_stays e [] = refl
bent_stays e (f ∷ fs) = bent_stays e fs

best_from : (e : Extremum) (fs : List AffineForm) (b : AffineForm) → of_best (best_all e (Found b) fs) ≡ extreme (is_better e) b fs
best_from e [] b = refl
best_from e (f ∷ fs) b = by_test (same_terms f.terms b.terms) (best_from e fs (if is_better e f.constant b.constant then f else b))
  where
    by_test : (same : Bool) → of_best (best_all e (Found (if is_better e f.constant b.constant then f else b)) fs) ≡ extreme (is_better e) (if is_better e f.constant b.constant then f else b) fs
        → of_best (best_all e (if same then Found (if is_better e f.constant b.constant then f else b) else Bent) fs)
        ≡ (if same then extreme (is_better e) (if is_better e f.constant b.constant then f else b) fs else breaks)
    by_test true h = h
    by_test false h = ap of_best (bent_stays e fs)

best_of : (e : Extremum) (fs : List AffineForm) → of_best (best_all e Nothing fs) ≡ extreme_of (is_better e) fs
best_of e [] = refl
best_of e (f ∷ fs) = best_from e fs f

-- ---- all together
pub taken_of_all : (e : Extremum) (args : List AbsArg) → of_taken (taken_args e 0 untaken args) ≡ of_items args (extreme_of (is_better e))
taken_of_all e args =
    ap (λ o. on_items o (taken_args e 0 untaken args).test (of_best (taken_args e 0 untaken args).best)) (error_of_all e 0 args untaken)
    ∙ ap (λ o. on_items (first_error (flat_map items_in args)) o (of_best (taken_args e 0 untaken args).best)) (test_of_all e 0 args untaken)
    ∙ ap (λ b. on_items (first_error (flat_map items_in args)) (first_open 0 args) (of_best b)) (best_of_all e 0 args untaken)
    ∙ ap (on_items (first_error (flat_map items_in args)) (first_open 0 args)) (best_of e (forms_of args))
