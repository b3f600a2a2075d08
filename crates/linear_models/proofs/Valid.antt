-- The linear model of a statement is valid.
use Rattle.std.specs.Prelude.{All}
use Rattle.std.specs.List.{AllByRecursion, range_with_len}
use Rattle.std.specs.Option.{option_map}
use Rattle.std.proofs.Common.{◌≡◌, ◌⊎◌, inl, inr, ℕ, ◌<◌, ◌≤◌, Bool, true, false, refl, sym, ap, ◌∙◌, List, [], ◌∷◌, map, length, Option, Some, None, subst, arith, length-append}
use Rattle.std.proofs.lemmas.List.Elements.{All-from_recursion, recursion_from_All}
use Rattle.std.proofs.lemmas.List.FromFn.{length-map-range_with_len}
use Rattle.fractions.specs.Rational.{ℚ, neg_ℚ, zero_ℚ}
use Rattle.fractions.specs.Floor.{floor_ℚ}
use Rattle.fractions.proofs.Whole.{whole-neg}
use Rattle.optimality.specs.Problem.{Relation, Goal, greatest, least, reach}
use Rattle.optimality.specs.Optimal.{IsWhole}
use Rattle.affine_forms.specs.Forms.{AffineForm, IsForm, constant_form}
use Rattle.linear_models.specs.Box.{bound_at}
use Rattle.linear_models.specs.Model.{IsFormOf, IsGroupOf, IsValid, is_whole_at}
use Rattle.linear_models.specs.Statement.{Constraint, Statement}
use Rattle.linear_models.specs.Bounds.{bounded, is_marked, least_of, greatest_of, up, down, highest, lowest, lower_bounds, upper_bounds}
use Rattle.linear_models.specs.Linear.{linear, form_or_zero, objective_left}
use Rattle.linear_models.specs.Agreement.{IsGroupIn, IsStated, SidesReach}
use Rattle.linear_models.proofs.Wholes.{is_whole}
use Rattle.linear_models.proofs.Members.{made_at, made_past, below_or_not}
use Rattle.linear_models.proofs.Sides.{row_exact, rows_exact}
use Rattle.linear_models.proofs.Regular.{parts_hold}
use Rattle.linear_models.proofs.Reach.{difference_is_form}
use Rattle.linear_models.proofs.Agreement.{reach_exact, rows_of}
use Rattle.linear_models.proofs.ValidGroups.{groups_fit}

-- the two sides are forms
abbrev pub SidesAreForms : Constraint → Type 0
SidesAreForms r = IsForm r.left × IsForm r.right

constant_is_form : (n : ℕ) (c : ℚ) → IsFormOf n (constant_form c)
constant_is_form n c = record { form = record { rise = tt }; reach = tt }

-- ---- rows
abbrev Fits : ℕ → AffineForm × Relation → Type 0
Fits n row = IsFormOf n row.0

row_fits : (n : ℕ) (o : Option ℕ) (r : Constraint) → SidesReach n r → SidesAreForms r → AllByRecursion (Fits n) (row_exact o r)
row_fits n None r s f = (difference_is_form n r.left r.right record { form = f.0; reach = s.left } record { form = f.1; reach = s.right }, tt)
row_fits n (Some j) r s f = tt

rows_fit : (n : ℕ) (rs : List Constraint) → AllByRecursion (SidesReach n) rs → AllByRecursion SidesAreForms rs → AllByRecursion (Fits n) (rows_exact rs)
rows_fit n [] s f = tt
rows_fit n (r ∷ rs) s f = parts_hold (Fits n) (row_exact (bounded r) r) (rows_exact rs) (row_fits n (bounded r) r s.0 f.0) (rows_fit n rs s.1 f.1)

last_fits : (n : ℕ) (g : Goal) (f : AffineForm) → IsFormOf n f → AllByRecursion (Fits n) (reach_exact g f)
last_fits n greatest f h = tt
last_fits n least f h = tt
last_fits n (reach v) f h = (difference_is_form n f (constant_form v) h (constant_is_form n v), tt)

row_few : (o : Option ℕ) (r : Constraint) → length (row_exact o r) ≤ 1
row_few None r = omega arith
row_few (Some j) r = omega arith

rows_few : (rs : List Constraint) → length (rows_exact rs) ≤ length rs
rows_few [] = omega arith
rows_few (r ∷ rs) = let h = rows_few rs in let k = row_few (bounded r) r in omega (arith, h, k, length-append (row_exact (bounded r) r) (rows_exact rs))

last_few : (g : Goal) (f : AffineForm) → length (reach_exact g f) ≤ 1
last_few greatest f = omega arith
last_few least f = omega arith
last_few (reach v) f = omega arith

-- ---- the objective
some_form : (n : ℕ) (o : Option AffineForm) → ((f : AffineForm) → o ≡ Some f → IsFormOf n f) → IsFormOf n (form_or_zero o)
some_form n None h = constant_is_form n zero_ℚ
some_form n (Some f) h = h f refl

objective_fits : (n : ℕ) (g : Goal) (f : AffineForm) → IsFormOf n f → IsFormOf n (objective_left g f)
objective_fits n greatest f h = h
objective_fits n least f h = h
objective_fits n (reach v) f h = constant_is_form n zero_ℚ

-- ---- bounds of what is whole
up_is_whole : (b : ℚ) → IsWhole (up true b)
up_is_whole b = is_whole _ _ (sym (whole-neg (floor_ℚ (neg_ℚ b))))

down_is_whole : (b : ℚ) → IsWhole (down true b)
down_is_whole b = is_whole _ (floor_ℚ b) refl

rounded : (f : Bool → ℚ → ℚ) (v : Bool) (o : Option ℚ) (b : ℚ) → ((x : ℚ) → IsWhole (f true x)) → v ≡ true → option_map (f v) o ≡ Some b → IsWhole b
rounded f true None b w q e = cc
rounded f true (Some c) b w q e = subst IsWhole (some_is e) (w c)
  where
    some_is : {x y : ℚ} → Some x ≡ Some y → x ≡ y
    some_is e = cc
rounded f false o b w q e = cc

whole_bounds : (s : Statement) (bound : ℕ → Option ℚ) (f : Bool → ℚ → ℚ) (all : ℕ → Option ℚ) → ((x : ℚ) → IsWhole (f true x)) → ((j : ℕ) → bound j ≡ option_map (f (is_marked s j)) (all j))
    → (j : ℕ) (b : ℚ) → is_whole_at (linear s).whole j ≡ true → bound_at (map bound (range_with_len 0 s.decisions)) j ≡ Some b → IsWhole b
whole_bounds s bound f all w h j b m e = cases (below_or_not j s.decisions)
  where
    cases : (j < s.decisions) ⊎ (s.decisions ≤ j) → IsWhole b
    cases (inl l) = rounded f (is_marked s j) (all j) b w (sym (made_at (is_marked s) s.decisions j false l) ∙ m) (sym (h j) ∙ sym (made_at bound s.decisions j None l) ∙ e)
    cases (inr l) = let q : None ≡ Some b = sym (made_past bound s.decisions j None l) ∙ e in absurd (cc)

pub linear_is_valid : (s : Statement) → IsStated s → AllByRecursion SidesAreForms s.rows → ((f : AffineForm) → s.objective ≡ Some f → IsForm f) → IsValid (linear s)
linear_is_valid s w f o =
    let n : length (linear s).whole ≡ s.decisions = length-map-range_with_len (is_marked s) 0 s.decisions in
    let objective : IsFormOf s.decisions (form_or_zero s.objective) = some_form s.decisions s.objective (λ g e. record { form = o g e; reach = w.objective g e }) in
    let rows : AllByRecursion (Fits s.decisions) (linear s).rows =
    subst (AllByRecursion (Fits s.decisions)) (sym (rows_of s)) (parts_hold (Fits s.decisions) (rows_exact s.rows) _ (rows_fit s.decisions s.rows (recursion_from_All _ s.rows w.sides) f) (last_fits s.decisions s.goal (form_or_zero s.objective) objective)) in
    record {
      few = omega (arith, n, w.few);
      few_rows = omega (arith, ap length (rows_of s), length-append (rows_exact s.rows) (reach_exact s.goal (form_or_zero s.objective)), rows_few s.rows, last_few s.goal (form_or_zero s.objective), w.few_rows);
      objective = subst (λ k. IsFormOf k (objective_left s.goal (form_or_zero s.objective))) (sym n) (objective_fits s.decisions s.goal (form_or_zero s.objective) objective);
      rows = subst (λ k. All (λ (row : AffineForm × Relation). IsFormOf k row.0) (linear s).rows) (sym n) (All-from_recursion (Fits s.decisions) (linear s).rows rows);
      least = length-map-range_with_len (least_of s) 0 s.decisions ∙ sym n;
      greatest = length-map-range_with_len (greatest_of s) 0 s.decisions ∙ sym n;
      whole_least = whole_bounds s (least_of s) up (λ j. highest (lower_bounds s j)) up_is_whole (λ j. refl);
      whole_greatest = whole_bounds s (greatest_of s) down (λ j. lowest (upper_bounds s j)) down_is_whole (λ j. refl);
      groups = All-from_recursion (IsGroupOf (linear s)) s.groups (groups_fit s s.groups (recursion_from_All (IsGroupIn s.decisions) s.groups w.groups) (λ j e. e));
    }
