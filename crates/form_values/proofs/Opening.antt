-- Open forms, and forms that are in order.
use Rattle.std.specs.Prelude.{◌==◌, not, suc, length, ⊤}
use Rattle.std.specs.List.{AllByRecursion}
use Rattle.std.proofs.Common.{◌≡◌, refl, sym, ap, ◌∙◌, subst, IsTrue, Bool, true, false, true≢false, ℕ, List, [], ◌∷◌, ◌≢◌}
use Rattle.std.proofs.Math.Bool.{Bool-set}
use Rattle.std.proofs.lemmas.Bool.{le-leb, leb-true}
use Rattle.fractions.specs.Rational.{ℚ, zero_ℚ, eq_ℚ}
use Rattle.fractions.proofs.Order.{eq_iff, and_iff}
use Rattle.affine_forms.specs.Forms.{AffineForm, IsForm, RiseFrom, has_terms, are_some}
use Rattle.affine_forms.specs.declared.rel.Rel.{Rel}
use Rattle.form_values.specs.OpenForms.{is_open, rises_from}
use Rattle.form_values.specs.Meaning.{elements_of}
use Rattle.form_values.specs.Entries.{entry, number_of_form, test, test_of_form}
use Rattle.form_values.specs.declared.open_form.Open.{Open}
use Rattle.form_values.specs.declared.abs.Abs.{Abs}
use Rattle.form_values.specs.declared.abs.Abs.TheVariants.{Known, Affine, Test}
use Rattle.form_values.specs.declared.abs.AbsArg.{AbsArg}

-- ---- the tests of forms
not_zero : (q : ℚ) → q ≢ zero_ℚ → IsTrue (not (eq_ℚ q zero_ℚ))
not_zero q n = by_test (eq_ℚ q zero_ℚ) refl
  where
    by_test : (b : Bool) → eq_ℚ q zero_ℚ ≡ b → IsTrue (not b)
    by_test true e = absurd (n ((eq_iff q zero_ℚ).0 e))
    by_test false e = refl

is_not_zero : (q : ℚ) → IsTrue (not (eq_ℚ q zero_ℚ)) → q ≢ zero_ℚ
is_not_zero q h e = true≢false (sym h ∙ ap not ((eq_iff q zero_ℚ).1 e))

rising : (n : ℕ) (ts : List (ℕ × ℚ)) → RiseFrom n ts → IsTrue (rises_from n ts)
rising n [] h = refl
rising n (t ∷ ts) h = (and_iff _ _).1 (le-leb n t.0 h.0, (and_iff _ _).1 (not_zero t.1 h.1, rising (suc t.0) ts h.2))

rise : (n : ℕ) (ts : List (ℕ × ℚ)) → IsTrue (rises_from n ts) → RiseFrom n ts
rise n [] h = tt
rise n (t ∷ ts) h =
    let a = (and_iff _ _).0 h in
    let b = (and_iff (not (eq_ℚ t.1 zero_ℚ)) _).0 a.1 in
    (leb-true n t.0 a.0, is_not_zero t.1 b.0, rise (suc t.0) ts b.1)

-- a form with a term is open
pub opened : (f : AffineForm) → IsForm f → IsTrue (has_terms f) → IsTrue (is_open f)
opened f h k = (and_iff _ _).1 (k, rising 0 f.terms h.rise)

-- ---- open forms
pub open_has_a_term : (o : Open) → IsForm o.form × IsTrue (has_terms o.form)
open_has_a_term o = let a = (and_iff (has_terms o.form) _).0 o.has_a_term in (record { rise = rise 0 o.form.terms a.1 }, a.0)

-- a form with a term, an open value that has one, and an argument whose elements do
abbrev pub IsOpen : AffineForm → Type 0
IsOpen f = IsForm f × IsTrue (has_terms f)

abbrev pub IsAbs : Abs → Type 0
IsAbs (Known v) = ⊤
IsAbs (Affine o) = IsOpen o.form
IsAbs (Test o r) = IsOpen o.form

abbrev pub IsSound : AbsArg → Type 0
IsSound a = AllByRecursion IsAbs (elements_of a)

-- as all do
pub abs_sound : (a : Abs) → IsAbs a
abs_sound (Known v) = tt
abs_sound (Affine o) = open_has_a_term o
abs_sound (Test o r) = open_has_a_term o

pub items_sound : (items : List Abs) → AllByRecursion IsAbs items
items_sound [] = tt
items_sound (a ∷ items) = (abs_sound a, items_sound items)

pub arg_sound : (a : AbsArg) → IsSound a
arg_sound a = items_sound (elements_of a)

pub args_sound : (args : List AbsArg) → AllByRecursion IsSound args
args_sound [] = tt
args_sound (a ∷ args) = (arg_sound a, args_sound args)

-- two with one form are one
pub same_open : (o p : Open) → o.form ≡ p.form → o ≡ p
same_open o p e = by_form p.form e p.has_a_term
  where
    by_form : (g : AffineForm) → o.form ≡ g → (k : IsTrue (is_open g)) → o ≡ record { form = g; has_a_term = k }
    by_form g e = subst (λ (g : AffineForm). (k : IsTrue (is_open g)) → o ≡ record { form = g; has_a_term = k }) e (λ k. ap (λ (q : IsTrue (is_open o.form)). record { form = o.form; has_a_term = q }) (Bool-set _ _ o.has_a_term k))

-- ---- forms as values
-- a form whose list of terms isn't empty is open
pub some_open : (f : AffineForm) (ts : List (ℕ × ℚ)) (b : Bool) → ts ≡ f.terms → b ≡ (length ts == 0) → b ≡ false → IsForm f → IsTrue (is_open f)
some_open f ts b same e h is = opened f is (subst (λ us. IsTrue (are_some us)) same (by_list ts (sym e ∙ h)))
  where
    by_list : (us : List (ℕ × ℚ)) → (length us == 0) ≡ false → IsTrue (are_some us)
    by_list [] d = absurd (true≢false d)
    by_list (u ∷ us) d = refl

pub entry_open : (f : AffineForm) (h : IsTrue (is_open f)) → Affine (record { form = f; has_a_term = h }) ≡ entry f
entry_open f h = by_test (is_open f) refl h
  where
    by_test : (b : Bool) (e : is_open f ≡ b) → IsTrue b → Affine (record { form = f; has_a_term = h }) ≡ number_of_form f b e
    by_test true e t = ap (λ (q : IsTrue (is_open f)). Affine (record { form = f; has_a_term = q })) (Bool-set _ _ h e)
    by_test false e t = absurd (true≢false (sym t))

pub test_open : (r : Rel) (f : AffineForm) (h : IsTrue (is_open f)) → Test (record { form = f; has_a_term = h }) r ≡ test r f
test_open r f h = by_test (is_open f) refl h
  where
    by_test : (b : Bool) (e : is_open f ≡ b) → IsTrue b → Test (record { form = f; has_a_term = h }) r ≡ test_of_form r f b e
    by_test true e t = ap (λ (q : IsTrue (is_open f)). Test (record { form = f; has_a_term = q }) r) (Bool-set _ _ h e)
    by_test false e t = absurd (true≢false (sym t))
