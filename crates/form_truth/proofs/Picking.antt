-- The part that INDEX picks by open places.
use Rattle.std.specs.Prelude.{slice_get, ◌==◌}
use Rattle.std.specs.List.{AllByRecursion}
use Rattle.std.specs.Result.{result_map_both}
use Rattle.std.proofs.Common.{◌≡◌, refl, sym, ap, ap₂, ◌∙◌, subst, Bool, true, false, if◌then◌else◌, List, [], ◌∷◌, ℕ, pos, Option, Some, None, Result, Ok, Err}
use Rattle.fractions.specs.Rational.{ℚ}
use Rattle.fractions.specs.Floor.{floor_ℚ}
use Rattle.calculations.specs.Calculation.{exact}
use Rattle.cell_refs.specs.declared.error_kind.ErrorKind.{ErrorKind}
use Rattle.cell_refs.specs.declared.error_kind.ErrorKind.TheVariants as kind
use Rattle.sheet_funcs.specs.Picks.{picked, part_of, pick_at}
use Rattle.sheet_funcs.specs.Rounding as functions_numbers
use Rattle.sheet_funcs.specs.Rounding.{place_of}
use Rattle.sheet_funcs.specs.declared.pick.Pick.{Pick}
use Rattle.sheet_funcs.specs.declared.pick.Pick.TheVariants.{Fault}
use Rattle.affine_forms.specs.Forms.{Assignment, AffineForm, worth}
use Rattle.form_values.specs.Meaning.{arg_at}
use Rattle.form_values.proofs.Opening.{IsSound, arg_sound}
use Rattle.form_values.specs.declared.abs.AbsArg.{AbsArg}
use Rattle.form_table.specs.Wanted as wanted
use Rattle.form_table.specs.Wanted.{Wanted, form, open_test, none, number_of, constant_of, known_number}
use Rattle.form_table.specs.Picks.{picked_by, by_place, of_places, whole}
use Rattle.form_truth.specs.Rows.{ArgumentVaries}
use Rattle.form_truth.specs.Picks.{IsPick, IndexIsRight}
use Rattle.form_truth.proofs.Arguments.{value_sound}
use Rattle.form_truth.proofs.Fitting.{fits, constant_is}
use Rattle.form_truth.proofs.Matching.{Asked, asks_none, asks_form, asks_test, asked, asked_there}

-- ---- what a place is: an error, known, or open
pub data Placed (varies : Type 0) (size : ℕ) (number : Assignment → Result ℚ ErrorKind) : Wanted → Type 0 where
  is_fault : (k : ErrorKind) → ((x : Assignment) → number x ≡ Err k) → Placed varies size number (none k)
  is_known : (f : AffineForm) (c : ℚ) → constant_of f ≡ Some c → ((x : Assignment) → number x ≡ Ok c) → Placed varies size number (form f)
  is_form : (f : AffineForm) → constant_of f ≡ None → ((x : Assignment) → (q : ℚ) × (number x ≡ Ok q)) → varies → Placed varies size number (form f)
  is_test : ((x : Assignment) → (q : ℚ) × (number x ≡ Ok q)) → varies → Placed varies size number open_test

placed : (varies : Type 0) (size : ℕ) (number : Assignment → Result ℚ ErrorKind) (w : Wanted) → Asked varies number w → Placed varies size number w
placed varies size number (none k) (asks_none l d) = is_fault l d
placed varies size number (form f) (asks_form g d v) = by_constant (constant_of g) refl
  where
    by_constant : (c : Option ℚ) → constant_of g ≡ c → Placed varies size number (form g)
    by_constant (Some c) e = is_known g c e (λ x. d x ∙ ap Ok (constant_is g c e x))
    by_constant None e = is_form g e (λ x. (worth x g, d x)) (v e)
placed varies size number open_test (asks_test d v) = is_test d v

-- the rows or columns that it picks, where it is known
abbrev IsSpot : Type 0 → ℕ → (Assignment → Result ℚ ErrorKind) → Option (Option (ℕ × ℕ)) → Type 0
IsSpot varies size number (Some p) = (x : Assignment) → (q : ℚ) × (number x ≡ Ok q) × (picked size (floor_ℚ q) ≡ p)
IsSpot varies size number None = ((x : Assignment) → (q : ℚ) × (number x ≡ Ok q)) × varies

abbrev spot_of : ℕ → Option ℚ → Option (Option (ℕ × ℕ))
spot_of size o = Rattle.std.specs.Prelude.option_map (λ x. picked size (floor_ℚ x)) o

spot : (varies : Type 0) (size : ℕ) (number : Assignment → Result ℚ ErrorKind) (f : AffineForm) → Placed varies size number (form f) → IsSpot varies size number (picked_by size (form f))
spot varies size number f (is_known g c e d) = subst (λ o. IsSpot varies size number (spot_of size o)) (sym e) (λ x. (c, d x, refl))
spot varies size number f (is_form g e d v) = subst (λ o. IsSpot varies size number (spot_of size o)) (sym e) (d, v)

spot_number : (varies : Type 0) (size : ℕ) (number : Assignment → Result ℚ ErrorKind) (o : Option (Option (ℕ × ℕ))) → IsSpot varies size number o → (x : Assignment) → (q : ℚ) × (number x ≡ Ok q)
spot_number varies size number (Some p) h x = ((h x).0, (h x).1)
spot_number varies size number None h x = h.0 x

pub no_columns : (o : Option (ℕ × ℕ)) → part_of o None ≡ Fault kind.Ref
no_columns (Some r) = refl
no_columns None = refl

-- ---- one place
module _ (args : List AbsArg) where
  one_place : (size : ℕ) (number : Assignment → Result ℚ ErrorKind) (f : Option (ℕ × ℕ) → Pick) (value : Assignment → Pick)
      → ((x : Assignment) (k : ErrorKind) → number x ≡ Err k → value x ≡ Fault k) → ((x : Assignment) (q : ℚ) → number x ≡ Ok q → value x ≡ f (picked size (floor_ℚ q)))
      → (w : Wanted) → Placed (ArgumentVaries arg_at args 1) size number w → IsPick value args (exact (by_place w (picked_by size w) f))
  one_place size number f value errs oks (none k) (is_fault l d) = λ x. errs x l (d x)
  one_place size number f value errs oks (form g) (is_known h c e d) =
      subst (λ o. IsPick value args (exact (by_place (form h) (spot_of size o) f))) (sym e) (λ x. oks x c (d x))
  one_place size number f value errs oks (form g) (is_form h e d v) = subst (λ o. IsPick value args (exact (by_place (form h) (spot_of size o) f))) (sym e) v
  one_place size number f value errs oks open_test (is_test d v) = v

-- ---- two places
module _ (args : List AbsArg) (rows columns : ℕ) (first second : Assignment → Result ℚ ErrorKind) where
  abbrev both : Result ℚ ErrorKind → Result ℚ ErrorKind → Pick
  both r s = pick_at rows columns (result_map_both floor_ℚ (λ k. k) r) (result_map_both floor_ℚ (λ k. k) s)

  abbrev value : Assignment → Pick
  value x = both (first x) (second x)

  abbrev Varies₁ : Type 0
  Varies₁ = ArgumentVaries arg_at args 1

  abbrev Varies₂ : Type 0
  Varies₂ = ArgumentVaries arg_at args 2

  at : (x : Assignment) (q p : ℚ) → first x ≡ Ok q → second x ≡ Ok p → value x ≡ part_of (picked rows (floor_ℚ q)) (picked columns (floor_ℚ p))
  at x q p d e = ap₂ both d e

  no_row : (x : Assignment) → (q : ℚ) × (first x ≡ Ok q) × (picked rows (floor_ℚ q) ≡ None) → (p : ℚ) × (second x ≡ Ok p) → value x ≡ Fault kind.Ref
  no_row x r c = at x r.0 c.0 r.1 c.1 ∙ ap (λ o. part_of o (picked columns (floor_ℚ c.0))) r.2

  no_column : (x : Assignment) → (q : ℚ) × (first x ≡ Ok q) → (p : ℚ) × (second x ≡ Ok p) × (picked columns (floor_ℚ p) ≡ None) → value x ≡ Fault kind.Ref
  no_column x r c = at x r.0 c.0 r.1 c.1 ∙ ap (part_of (picked rows (floor_ℚ r.0))) c.2 ∙ no_columns (picked rows (floor_ℚ r.0))

  forms_right : (f g : AffineForm) (r c : Option (Option (ℕ × ℕ))) → IsSpot Varies₁ rows first r → IsSpot Varies₂ columns second c → IsPick value args (exact (of_places (form f) (form g) r c))
  forms_right f g (Some None) c h k = λ x. no_row x (h x) (spot_number Varies₂ columns second c k x)
  forms_right f g (Some (Some p)) (Some None) h k = λ x. no_column x ((h x).0, (h x).1) (k x)
  forms_right f g None (Some None) h k = λ x. no_column x (h.0 x) (k x)
  forms_right f g (Some (Some p)) (Some (Some q)) h k = λ x. at x (h x).0 (k x).0 (h x).1 (k x).1 ∙ ap₂ part_of (h x).2 (k x).2
  forms_right f g (Some (Some p)) None h k = k.1
  forms_right f g None (Some (Some q)) h k = h.1
  forms_right f g None None h k = h.1

  test_second : (f : AffineForm) (r : Option (Option (ℕ × ℕ))) → IsSpot Varies₁ rows first r → ((x : Assignment) → (p : ℚ) × (second x ≡ Ok p)) → Varies₂ → IsPick value args (exact (of_places (form f) open_test r None))
  test_second f (Some None) h d v = λ x. no_row x (h x) (d x)
  test_second f (Some (Some p)) h d v = v
  test_second f None h d v = v

  test_first : (g : AffineForm) (c : Option (Option (ℕ × ℕ))) → ((x : Assignment) → (q : ℚ) × (first x ≡ Ok q)) → Varies₁ → IsSpot Varies₂ columns second c → IsPick value args (exact (of_places open_test (form g) None c))
  test_first g (Some None) d v k = λ x. no_column x (d x) (k x)
  test_first g (Some (Some q)) d v k = v
  test_first g None d v k = v

  number_at : (w : AffineForm) → Placed Varies₁ rows first (form w) → (x : Assignment) → (q : ℚ) × (first x ≡ Ok q)
  number_at w h x = spot_number Varies₁ rows first (picked_by rows (form w)) (spot Varies₁ rows first w h) x

  two_places : (w d : Wanted) → Placed Varies₁ rows first w → Placed Varies₂ columns second d → IsPick value args (exact (of_places w d (picked_by rows w) (picked_by columns d)))
  two_places (none k) d (is_fault l e) j = λ x. ap (λ r. both r (second x)) (e x)
  two_places (form f) (none k) h (is_fault l e) = λ x. ap₂ both (number_at f h x).1 (e x)
  two_places open_test (none k) (is_test d v) (is_fault l e) = λ x. ap₂ both (d x).1 (e x)
  two_places (form f) (form g) h j = forms_right f g (picked_by rows (form f)) (picked_by columns (form g)) (spot Varies₁ rows first f h) (spot Varies₂ columns second g j)
  two_places (form f) open_test h (is_test e u) = test_second f (picked_by rows (form f)) (spot Varies₁ rows first f h) e u
  two_places open_test (form g) (is_test d v) j = test_first g (picked_by columns (form g)) d v (spot Varies₂ columns second g j)
  two_places open_test open_test (is_test d v) (is_test e u) = v

-- ---- INDEX
pub placed_at : (args : List AbsArg) (i : ℕ) (size : ℕ) (a : AbsArg) → slice_get args i ≡ Some a → IsSound a
    → Placed (ArgumentVaries arg_at args i) size (λ x. functions_numbers.number_of (arg_at x a)) (number_of a)
placed_at args i size a e h =
    placed (ArgumentVaries arg_at args i) size (λ x. functions_numbers.number_of (arg_at x a)) (number_of a)
    (asked_there args i a e (λ x. functions_numbers.number_of (arg_at x a)) (number_of a) (asked a (number_of a) (fits (wanted.value_of a) (value_sound a h))))

single_place : (rows columns : ℕ) (grid a : AbsArg) → IsSound a → (b : Bool)
    → IsPick (λ x. if b then pick_at rows columns (Ok (pos 0)) (place_of (arg_at x a)) else pick_at rows columns (place_of (arg_at x a)) (Ok (pos 0))) (grid ∷ a ∷ [])
    (exact (if b then by_place (number_of a) (picked_by columns (number_of a)) (part_of (whole rows)) else by_place (number_of a) (picked_by rows (number_of a)) (λ r. part_of r (whole columns))))
single_place rows columns grid a h true =
    one_place (grid ∷ a ∷ []) columns (λ x. functions_numbers.number_of (arg_at x a)) (part_of (whole rows)) (λ x. pick_at rows columns (Ok (pos 0)) (place_of (arg_at x a)))
    (λ x k e. ap (λ r. pick_at rows columns (Ok (pos 0)) (result_map_both floor_ℚ (λ k. k) r)) e) (λ x q e. ap (λ r. pick_at rows columns (Ok (pos 0)) (result_map_both floor_ℚ (λ k. k) r)) e)
    (number_of a) (placed_at (grid ∷ a ∷ []) 1 columns a refl h)
single_place rows columns grid a h false =
    one_place (grid ∷ a ∷ []) rows (λ x. functions_numbers.number_of (arg_at x a)) (λ r. part_of r (whole columns)) (λ x. pick_at rows columns (place_of (arg_at x a)) (Ok (pos 0)))
    (λ x k e. ap (λ r. pick_at rows columns (result_map_both floor_ℚ (λ k. k) r) (Ok (pos 0))) e) (λ x q e. ap (λ r. pick_at rows columns (result_map_both floor_ℚ (λ k. k) r) (Ok (pos 0))) e)
    (number_of a) (placed_at (grid ∷ a ∷ []) 1 rows a refl h)

pub index_is_right : IndexIsRight
index_is_right rows columns grid [] = λ x. refl
index_is_right rows columns grid (a ∷ []) = single_place rows columns grid a (arg_sound a) (rows == 1)
index_is_right rows columns grid (a ∷ b ∷ []) =
    two_places (grid ∷ a ∷ b ∷ []) rows columns (λ x. functions_numbers.number_of (arg_at x a)) (λ x. functions_numbers.number_of (arg_at x b)) (number_of a) (number_of b)
    (placed_at (grid ∷ a ∷ b ∷ []) 1 rows a refl (arg_sound a)) (placed_at (grid ∷ a ∷ b ∷ []) 2 columns b refl (arg_sound b))
index_is_right rows columns grid (a ∷ b ∷ c ∷ others) = λ x. refl
