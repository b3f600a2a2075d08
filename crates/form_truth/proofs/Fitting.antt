-- What a wanted number is at each assignment.
use Rattle.std.specs.Prelude.{◌≢◌, IsTrue}
use Rattle.std.proofs.Common.{◌≡◌, refl, sym, ap, ◌∙◌, Bool, true, false, true≢false, if◌then◌else◌, ◌⊎◌, inl, inr, List, [], ◌∷◌, Some, None, Result, Ok, Err, ℕ, negsuc}
use Rattle.fractions.specs.Rational.{ℚ, zero_ℚ, one_ℚ, le_ℚ, eq_ℚ, frac, computed}
use Rattle.fractions.proofs.Laws.{add-zero}
use Rattle.cell_refs.specs.declared.error_kind.ErrorKind.{ErrorKind}
use Rattle.sheet_model.specs.Conversions.{number_in}
use Rattle.sheet_model.specs.declared.value.Value.{Value}
use Rattle.sheet_model.specs.declared.value.Value.TheVariants.{Number, Logical}
use Rattle.affine_forms.specs.Forms.{Assignment, AffineForm, IsForm, worth, has_terms, are_some, constant_form}
use Rattle.affine_forms.proofs.Directions.{moves, reached, reached_worth}
use Rattle.form_values.specs.Meaning.{abs_at}
use Rattle.form_values.proofs.Opening.{IsAbs, IsOpen, opened}
use Rattle.affine_forms.specs.Relations.{holds}
use Rattle.form_values.specs.Refusals.{Varies}
use Rattle.affine_forms.specs.declared.rel.Rel.{Rel}
use Rattle.affine_forms.specs.declared.rel.Rel.TheVariants as rel
use Rattle.form_values.specs.declared.open_form.Open.{Open}
use Rattle.form_values.specs.declared.abs.Abs.{Abs}
use Rattle.form_values.specs.declared.abs.Abs.TheVariants.{Known, Affine, Test}
use Rattle.form_table.specs.Wanted.{Wanted, form, open_test, none, wanted, of_number, constant_of}
use Rattle.form_values.specs.OpenForms as open_forms
use Rattle.form_values.specs.Entries.{entry, number_of_form, test, test_of_form}

-- ---- constants
pub constant_worth : (x : Assignment) (c : ℚ) → worth x (constant_form c) ≡ c
constant_worth x c = add-zero c

no_terms : (x : Assignment) (f : AffineForm) → has_terms f ≡ false → worth x f ≡ f.constant
no_terms x f h = by_terms f.terms h
  where
    by_terms : (ts : List (ℕ × ℚ)) → are_some ts ≡ false → worth x (record { constant = f.constant; terms = ts }) ≡ f.constant
    by_terms [] h = add-zero f.constant
    by_terms (t ∷ ts) h = absurd (true≢false h)

-- what isn't open has no term
not_open : (f : AffineForm) → IsForm f → open_forms.is_open f ≡ false → has_terms f ≡ false
not_open f i e = by_test (has_terms f) refl
  where
    by_test : (b : Bool) → has_terms f ≡ b → b ≡ false
    by_test true h = absurd (true≢false (sym (opened f i h) ∙ e))
    by_test false h = refl

-- a form as a value is that form at each assignment
pub entry_at : (x : Assignment) (f : AffineForm) → IsForm f → abs_at x (entry f) ≡ Number (worth x f)
entry_at x f i = by_test (open_forms.is_open f) refl
  where
    by_test : (b : Bool) (h : open_forms.is_open f ≡ b) → abs_at x (number_of_form f b h) ≡ Number (worth x f)
    by_test true h = refl
    by_test false h = ap Number (sym (no_terms x f (not_open f i h)))

pub test_at : (x : Assignment) (r : Rel) (f : AffineForm) → IsForm f → abs_at x (test r f) ≡ Logical (holds r (worth x f))
test_at x r f i = by_test (open_forms.is_open f) refl
  where
    by_test : (b : Bool) (h : open_forms.is_open f ≡ b) → abs_at x (test_of_form r f b h) ≡ Logical (holds r (worth x f))
    by_test true h = refl
    by_test false h = ap (λ w. Logical (holds r w)) (sym (no_terms x f (not_open f i h)))

-- a number that is known is the form's at each assignment
pub constant_is : (f : AffineForm) (c : ℚ) → constant_of f ≡ Some c → (x : Assignment) → worth x f ≡ c
constant_is f c e x = by_test (has_terms f) refl e
  where
    by_test : (b : Bool) → has_terms f ≡ b → (if b then None else Some f.constant) ≡ Some c → worth x f ≡ c
    by_test true h e = cc
    by_test false h e = let d : f.constant ≡ c = cc in no_terms x f h ∙ d

pub open_is : (f : AffineForm) → constant_of f ≡ None → IsTrue (has_terms f)
open_is f e = by_test (has_terms f) e
  where
    by_test : (b : Bool) → (if b then None else Some f.constant) ≡ None → IsTrue b
    by_test true e = refl
    by_test false e = cc

-- ---- open values vary
abbrev zero_point : Assignment
zero_point j = zero_ℚ

abbrev pub at_value : (f : AffineForm) → IsOpen f → ℚ → Assignment
at_value f h v = reached f (moves f h.0 h.1) zero_point v

pub at_value_worth : (f : AffineForm) (h : IsOpen f) (v : ℚ) → worth (at_value f h v) f ≡ v
at_value_worth f h v = reached_worth f (moves f h.0 h.1) zero_point v

number_of : Value → ℚ
number_of (Number x) = x
number_of v = zero_ℚ

zero_below : le_ℚ zero_ℚ zero_ℚ ≡ true
unfolding computed
zero_below = refl

one_above : le_ℚ one_ℚ zero_ℚ ≡ false
unfolding computed
one_above = refl

pub zero_is_not_one : zero_ℚ ≢ one_ℚ
zero_is_not_one e = true≢false (sym zero_below ∙ ap (λ x. le_ℚ x zero_ℚ) e ∙ one_above)

pub affine_varies : (o : Open) → IsOpen o.form → Varies (λ x. abs_at x (Affine o))
affine_varies o h = record {
  one = at_value o.form h zero_ℚ;
  other = at_value o.form h one_ℚ;
  differ = λ e. let d : worth (at_value o.form h zero_ℚ) o.form ≡ worth (at_value o.form h one_ℚ) o.form = cc in zero_is_not_one (sym (at_value_worth o.form h zero_ℚ) ∙ d ∙ at_value_worth o.form h one_ℚ);
}

-- a relation holds of one of -1, 0 and 1, and fails of another
pub record Parts (r : Rel) : Type 0 where
  pub within : ℚ
  pub without : ℚ
  pub holds_within : holds r within ≡ true
  pub fails_without : holds r without ≡ false

pub parts : (r : Rel) → Parts r
unfolding computed eq_ℚ
parts rel.Lt = record { within = frac (negsuc 0) 1; without = zero_ℚ; holds_within = refl; fails_without = refl }
parts rel.Le = record { within = zero_ℚ; without = one_ℚ; holds_within = refl; fails_without = refl }
parts rel.Eq = record { within = zero_ℚ; without = one_ℚ; holds_within = refl; fails_without = refl }
parts rel.Ne = record { within = one_ℚ; without = zero_ℚ; holds_within = refl; fails_without = refl }
parts rel.Ge = record { within = zero_ℚ; without = frac (negsuc 0) 1; holds_within = refl; fails_without = refl }
parts rel.Gt = record { within = one_ℚ; without = zero_ℚ; holds_within = refl; fails_without = refl }

pub test_varies : (o : Open) (r : Rel) → IsOpen o.form → Varies (λ x. abs_at x (Test o r))
test_varies o r h =
    let p = parts r in
    let f = o.form in
    record {
      one = at_value f h p.within;
      other = at_value f h p.without;
      differ = λ e.
          let d : holds r (worth (at_value f h p.within) f) ≡ holds r (worth (at_value f h p.without) f) = cc in
          true≢false (sym p.holds_within ∙ ap (holds r) (sym (at_value_worth f h p.within)) ∙ d ∙ ap (holds r) (at_value_worth f h p.without) ∙ p.fails_without);
    }

-- ---- what is wanted fits the value
pub data Fits (a : Abs) : Wanted → Type 0 where
  is_none : (k : ErrorKind) → ((x : Assignment) → number_in (abs_at x a) ≡ Err k) → Fits a (none k)
  is_form : (f : AffineForm) → IsForm f → ((v : Value) × (a ≡ Known v)) ⊎ IsTrue (has_terms f) → ((x : Assignment) → number_in (abs_at x a) ≡ Ok (worth x f)) → Fits a (form f)
  is_open : ((x : Assignment) → (q : ℚ) × (number_in (abs_at x a) ≡ Ok q)) → Varies (λ x. abs_at x a) → Fits a open_test

pub fits : (a : Abs) → IsAbs a → Fits a (wanted a)
fits (Known v) h = by_number (number_in v) refl
  where
    by_number : (r : Result ℚ ErrorKind) → number_in v ≡ r → Fits (Known v) (of_number r)
    by_number (Ok c) e = is_form (constant_form c) record { rise = tt } (inl (v, refl)) (λ x. e ∙ ap Ok (sym (constant_worth x c)))
    by_number (Err k) e = is_none k (λ x. e)
fits (Affine o) h = is_form o.form h.0 (inr h.1) (λ x. refl)
fits (Test f r) h = is_open (λ x. (_, refl)) (test_varies f r h)
