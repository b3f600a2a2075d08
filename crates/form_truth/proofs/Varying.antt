-- Arguments that aren't known vary, and those that are have their values at each assignment.
use Rattle.std.specs.List.{AllByRecursion, list_all}
use Rattle.std.proofs.Common.{◌≡◌, refl, sym, ap, ◌∙◌, Bool, true, false, true≢false, if◌then◌else◌, List, [], ◌∷◌, map, Some, None}
use Rattle.sheet_model.specs.declared.value.Value.{Value}
use Rattle.sheet_funcs.specs.Arguments.{value_of, only_of}
use Rattle.sheet_funcs.specs.Arguments as functions
use Rattle.affine_forms.specs.Forms.{Assignment}
use Rattle.form_values.specs.Meaning.{abs_at, arg_at}
use Rattle.form_values.proofs.Opening.{IsAbs, IsSound}
use Rattle.form_values.specs.Refusals.{Varies}
use Rattle.form_values.specs.declared.abs.Abs.{Abs}
use Rattle.form_values.specs.declared.abs.Abs.TheVariants.{Known, Affine, Test}
use Rattle.form_values.specs.declared.abs.AbsArg.{AbsArg}
use Rattle.form_values.specs.declared.abs.AbsArg.TheVariants.{One, Area}
use Rattle.form_table.specs.Wanted as wanted
use Rattle.form_table.specs.Wanted.{grid_of}
use Rattle.form_values.specs.Known.{is_known, value_in}
use Rattle.form_table.specs.Lookups.{known_value, known_keys}
use Rattle.form_truth.proofs.Arguments.{value_sound, argument_varies}
use Rattle.form_truth.proofs.Fitting.{affine_varies, test_varies}

-- ---- single values and elements
pub value_varies : (b : Abs) → IsAbs b → known_value b ≡ None → Varies (λ x. abs_at x b)
value_varies (Known v) h e = cc
value_varies (Affine f) h e = affine_varies f h
value_varies (Test f r) h e = test_varies f r h

pub value_known : (b : Abs) (v : Value) → known_value b ≡ Some v → (x : Assignment) → abs_at x b ≡ v
value_known (Known w) v e x = let s : w ≡ v = cc in s
value_known (Affine f) v e x = cc
value_known (Test f r) v e x = cc

first_same : (v w : Value) (vs ws : List Value) → v ∷ vs ≡ w ∷ ws → v ≡ w
first_same v w vs ws e = cc

others_same : (v w : Value) (vs ws : List Value) → v ∷ vs ≡ w ∷ ws → vs ≡ ws
others_same v w vs ws e = cc

pub items_vary : (items : List Abs) → AllByRecursion IsAbs items → list_all is_known items ≡ false → Varies (λ x. map (abs_at x) items)
items_vary [] h e = absurd (true≢false e)
items_vary (Known v ∷ items) h e =
    let r = items_vary items h.1 e in
    record { one = r.one; other = r.other; differ = λ s. r.differ (others_same v v (map (abs_at r.one) items) (map (abs_at r.other) items) s) }
items_vary (Affine f ∷ items) h e =
    let r = affine_varies f h.0 in
    record { one = r.one; other = r.other; differ = λ s. r.differ (first_same (abs_at r.one (Affine f)) (abs_at r.other (Affine f)) (map (abs_at r.one) items) (map (abs_at r.other) items) s) }
items_vary (Test f t ∷ items) h e =
    let r = test_varies f t h.0 in
    record { one = r.one; other = r.other; differ = λ s. r.differ (first_same (abs_at r.one (Test f t)) (abs_at r.other (Test f t)) (map (abs_at r.one) items) (map (abs_at r.other) items) s) }

all_known_at : (items : List Abs) → list_all is_known items ≡ true → (x : Assignment) → map (abs_at x) items ≡ map value_in items
all_known_at [] e x = refl
all_known_at (Known v ∷ items) e x = let r = all_known_at items e x in λ i. v ∷ (r i)
all_known_at (Affine f ∷ items) e x = absurd (true≢false (sym e))
all_known_at (Test f r ∷ items) e x = absurd (true≢false (sym e))

pub items_known : (items : List Abs) (vs : List Value) → known_keys items ≡ Some vs → (x : Assignment) → map (abs_at x) items ≡ vs
items_known items vs e x = by_test (list_all is_known items) refl e
  where
    by_test : (b : Bool) → list_all is_known items ≡ b → (if b then Some (map value_in items) else None) ≡ Some vs → map (abs_at x) items ≡ vs
    by_test true d e = let s : map value_in items ≡ vs = cc in all_known_at items d x ∙ s
    by_test false d e = cc

pub keys_open : (items : List Abs) → known_keys items ≡ None → list_all is_known items ≡ false
keys_open items e = by_test (list_all is_known items) refl e
  where
    by_test : (b : Bool) → list_all is_known items ≡ b → (if b then Some (map value_in items) else None) ≡ None → list_all is_known items ≡ false
    by_test true d e = cc
    by_test false d e = d

-- ---- arguments
items_at : (x : Assignment) (a : AbsArg) → (functions.grid_of (arg_at x a)).items ≡ map (abs_at x) (grid_of a).items
items_at x (One a) = refl
items_at x (Area g) = refl

grid_abs : (a : AbsArg) → IsSound a → AllByRecursion IsAbs (grid_of a).items
grid_abs (One a) h = h
grid_abs (Area g) h = h

pub argument_open : (a : AbsArg) → IsSound a → known_value (wanted.value_of a) ≡ None → Varies (λ x. arg_at x a)
argument_open a h e = argument_varies a (value_varies (wanted.value_of a) (value_sound a h) e)

pub grid_open : (a : AbsArg) → IsSound a → known_keys (grid_of a).items ≡ None → Varies (λ x. arg_at x a)
grid_open a h e =
    let v = items_vary (grid_of a).items (grid_abs a h) (keys_open (grid_of a).items e) in
    record { one = v.one; other = v.other; differ = λ s. v.differ (sym (items_at v.one a) ∙ ap (λ c. (functions.grid_of c).items) s ∙ items_at v.other a) }

pub grid_known : (a : AbsArg) (vs : List Value) → known_keys (grid_of a).items ≡ Some vs → (x : Assignment) → (functions.grid_of (arg_at x a)).items ≡ vs
grid_known a vs e x = items_at x a ∙ items_known (grid_of a).items vs e x
