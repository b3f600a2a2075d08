-- The numbers of a list of arguments under an assignment.
use Rattle.std.specs.Prelude.{◌+◌, flat_map, ◌++◌}
use Rattle.std.specs.List.{AllByRecursion, filter_map}
use Rattle.std.proofs.Common.{◌≡◌, refl, sym, ap, ◌∙◌, subst, Bool, true, false, true≢false, if◌then◌else◌, List, [], ◌∷◌, map, ℕ, suc, Some, None, Result, Ok, Err, arith}
use Rattle.fractions.specs.Rational.{ℚ}
use Rattle.cell_refs.specs.declared.error_kind.ErrorKind.{ErrorKind}
use Rattle.sheet_model.specs.Conversions.{number_in}
use Rattle.sheet_model.specs.declared.value.Value.{Value}
use Rattle.sheet_model.specs.declared.value.Value.TheVariants.{Number, Text, Logical, Empty, Error}
use Rattle.sheet_model.specs.declared.grid.Arg.{Arg}
use Rattle.sheet_funcs.specs.Arguments.{all_or_error, behind_first}
use Rattle.sheet_funcs.specs.Items as values
use Rattle.sheet_funcs.specs.Items.{number_at, numbers_of}
use Rattle.affine_forms.specs.Forms.{Assignment, AffineForm, IsForm, worth}
use Rattle.form_values.specs.Meaning.{abs_at, arg_at, elements_of}
use Rattle.form_values.proofs.Opening.{IsAbs}
use Rattle.form_values.specs.Refusals.{Varies}
use Rattle.form_values.specs.declared.abs.Abs.{Abs}
use Rattle.form_values.specs.declared.abs.Abs.TheVariants.{Known, Affine, Test}
use Rattle.form_values.specs.declared.abs.AbsArg.{AbsArg}
use Rattle.form_values.specs.declared.abs.AbsArg.TheVariants.{One, Area}
use Rattle.form_table.specs.Wanted.{Wanted, form, open_test, none, wanted, of_number}
use Rattle.form_table.specs.Items.{item_at, items_in, first_error, has_open, first_open, form_in, forms_of}
use Rattle.form_truth.proofs.Right.{ArgumentVaries}
use Rattle.form_truth.proofs.Fitting.{Fits, is_none, is_form, is_open, fits, constant_worth, test_varies}

-- ---- items that stand for each other
-- what an item is at an assignment
abbrev pub IsItem : Assignment → Wanted → Result ℚ ErrorKind → Type 0
IsItem x (none k) r = r ≡ Err k
IsItem x (form f) r = r ≡ Ok (worth x f)
IsItem x open_test r = (q : ℚ) × (r ≡ Ok q)

abbrev pub AreItems : Assignment → List Wanted → List (Result ℚ ErrorKind) → Type 0
AreItems x [] [] = Unit {0}
AreItems x (w ∷ ws) (r ∷ rs) = IsItem x w r × AreItems x ws rs
AreItems x _ _ = ⊥

items_append : (x : Assignment) (ws vs : List Wanted) (rs ss : List (Result ℚ ErrorKind)) → AreItems x ws rs → AreItems x vs ss → AreItems x (ws ++ vs) (rs ++ ss)
items_append x [] vs [] ss h k = k
items_append x (w ∷ ws) vs (r ∷ rs) ss h k = (h.0, items_append x ws vs rs ss h.1 k)
items_append x [] vs (r ∷ rs) ss h k = absurd h
items_append x (w ∷ ws) vs [] ss h k = absurd h

single_item : (x : Assignment) (a : Abs) (w : Wanted) → Fits a w → IsItem x w (number_in (abs_at x a))
single_item x a (none k) (is_none l d) = d x
single_item x a (form f) (is_form g i u d) = d x
single_item x a open_test (is_open d v) = d x

area_items : (x : Assignment) (items : List Abs) → AreItems x (filter_map item_at items) (filter_map number_at (map (abs_at x) items))
area_items x [] = tt
area_items x (Known (Number y) ∷ items) = (ap Ok (sym (constant_worth x y)), area_items x items)
area_items x (Known (Error k) ∷ items) = (refl, area_items x items)
area_items x (Known (Text y) ∷ items) = area_items x items
area_items x (Known (Logical y) ∷ items) = area_items x items
area_items x (Known Empty ∷ items) = area_items x items
area_items x (Affine f ∷ items) = (refl, area_items x items)
area_items x (Test f r ∷ items) = area_items x items

arg_items : (x : Assignment) (a : AbsArg) → AllByRecursion IsAbs (elements_of a) → AreItems x (items_in a) (values.items_in (arg_at x a))
arg_items x (One a) h = (single_item x a (wanted a) (fits a h.0), tt)
arg_items x (Area g) h = area_items x g.items

abbrev pub AreSound : List AbsArg → Type 0
AreSound args = AllByRecursion (λ (a : AbsArg). AllByRecursion IsAbs (elements_of a)) args

pub all_items : (x : Assignment) (args : List AbsArg) → AreSound args → AreItems x (flat_map items_in args) (flat_map values.items_in (map (arg_at x) args))
all_items x [] h = tt
all_items x (a ∷ args) h = items_append x (items_in a) _ (values.items_in (arg_at x a)) _ (arg_items x a h.0) (all_items x args h.1)

-- ---- the first error, or all numbers
pub items_fail : (x : Assignment) (ws : List Wanted) (rs : List (Result ℚ ErrorKind)) (k : ErrorKind) → AreItems x ws rs → first_error ws ≡ Some k → all_or_error rs ≡ Err k
items_fail x [] [] k h e = cc
items_fail x (none l ∷ ws) (r ∷ rs) k h e = let s : l ≡ k = cc in ap (λ r. all_or_error (r ∷ rs)) h.0 ∙ ap Err s
items_fail x (form f ∷ ws) (r ∷ rs) k h e = ap (λ r. all_or_error (r ∷ rs)) h.0 ∙ ap (behind_first (worth x f)) (items_fail x ws rs k h.1 e)
items_fail x (open_test ∷ ws) (r ∷ rs) k h e = ap (λ r. all_or_error (r ∷ rs)) h.0.1 ∙ ap (behind_first h.0.0) (items_fail x ws rs k h.1 e)
items_fail x [] (r ∷ rs) k h e = absurd h
items_fail x (w ∷ ws) [] k h e = absurd h

pub items_give : (x : Assignment) (ws : List Wanted) (rs : List (Result ℚ ErrorKind)) → AreItems x ws rs → first_error ws ≡ None → has_open ws ≡ false
    → all_or_error rs ≡ Ok (map (worth x) (filter_map form_in ws))
items_give x [] [] h e n = refl
items_give x (none l ∷ ws) (r ∷ rs) h e n = cc
items_give x (form f ∷ ws) (r ∷ rs) h e n = ap (λ r. all_or_error (r ∷ rs)) h.0 ∙ ap (behind_first (worth x f)) (items_give x ws rs h.1 e n)
items_give x (open_test ∷ ws) (r ∷ rs) h e n = absurd (true≢false n)
items_give x [] (r ∷ rs) h e n = absurd h
items_give x (w ∷ ws) [] h e n = absurd h

-- ---- the first argument that is open
open_append : (ws vs : List Wanted) → has_open ws ≡ false → has_open vs ≡ false → has_open (ws ++ vs) ≡ false
open_append [] vs h k = k
open_append (none l ∷ ws) vs h k = open_append ws vs h k
open_append (form f ∷ ws) vs h k = open_append ws vs h k
open_append (open_test ∷ ws) vs h k = absurd (true≢false h)

pub none_open : (n : ℕ) (args : List AbsArg) → first_open n args ≡ None → has_open (flat_map items_in args) ≡ false
none_open n [] h = refl
none_open n (a ∷ args) h = by_test (λ k. none_open (n + 1) args k) (has_open (items_in a)) refl h
  where
    by_test : (first_open (n + 1) args ≡ None → has_open (flat_map items_in args) ≡ false) → (b : Bool) → has_open (items_in a) ≡ b → (if b then Some n else first_open (n + 1) args) ≡ None → has_open (items_in a ++ flat_map items_in args) ≡ false
    by_test ih true e h = cc
    by_test ih false e h = open_append (items_in a) _ e (ih h)

area_not_open : (items : List Abs) → has_open (filter_map item_at items) ≡ false
area_not_open [] = refl
area_not_open (Known (Number y) ∷ items) = area_not_open items
area_not_open (Known (Error k) ∷ items) = area_not_open items
area_not_open (Known (Text y) ∷ items) = area_not_open items
area_not_open (Known (Logical y) ∷ items) = area_not_open items
area_not_open (Known Empty ∷ items) = area_not_open items
area_not_open (Affine f ∷ items) = area_not_open items
area_not_open (Test f r ∷ items) = area_not_open items

number_not_open : (r : Result ℚ ErrorKind) → has_open (of_number r ∷ []) ≡ true → ⊥
number_not_open (Ok y) e = true≢false (sym e)
number_not_open (Err k) e = true≢false (sym e)

one_differs : (a b : Abs) (x : Assignment) → arg_at x (One a) ≡ arg_at x (One b) → abs_at x a ≡ abs_at x b
one_differs a b x e = cc

open_varies : (a : AbsArg) → AllByRecursion IsAbs (elements_of a) → has_open (items_in a) ≡ true → Varies (λ x. arg_at x a)
open_varies (One (Known v)) h e = absurd (number_not_open (number_in v) e)
open_varies (One (Affine f)) h e = absurd (true≢false (sym e))
open_varies (One (Test f r)) h e =
    let v = test_varies f r h.0 in
    record { one = v.one; other = v.other; differ = λ s. v.differ (same_inside _ _ s) }
  where
    same_inside : (v w : Value) → Rattle.sheet_model.specs.declared.grid.Arg.TheVariants.One v ≡ Rattle.sheet_model.specs.declared.grid.Arg.TheVariants.One w → v ≡ w
    same_inside v w e = cc
open_varies (Area g) h e = absurd (true≢false (sym e ∙ area_not_open g.items))

pub first_open_varies : (n : ℕ) (args : List AbsArg) (i : ℕ) → AreSound args → first_open n args ≡ Some i → (k : ℕ) × (i ≡ n + k) × ArgumentVaries arg_at args k
first_open_varies n [] i h e = cc
first_open_varies n (a ∷ args) i h e = by_test (λ d. first_open_varies (n + 1) args i h.1 d) (has_open (items_in a)) refl e
  where
    by_test : (first_open (n + 1) args ≡ Some i → (k : ℕ) × (i ≡ (n + 1) + k) × ArgumentVaries arg_at args k) → (b : Bool) → has_open (items_in a) ≡ b → (if b then Some n else first_open (n + 1) args) ≡ Some i → (k : ℕ) × (i ≡ n + k) × ArgumentVaries arg_at (a ∷ args) k
    by_test ih true d e =
        let s : n ≡ i = cc in
        (0, omega arith, record { argument = a; is_there = refl; varies = open_varies a h.0 d })
    by_test ih false d e =
        let r = ih e in
        let j : i ≡ (n + 1) + r.0 = r.1 in
        (suc r.0, omega arith, record { argument = r.2.argument; is_there = r.2.is_there; varies = r.2.varies })

-- ---- the forms among sound arguments
forms_append : (P : AffineForm → Type 0) (fs gs : List AffineForm) → AllByRecursion P fs → AllByRecursion P gs → AllByRecursion P (fs ++ gs)
forms_append P [] gs h k = k
forms_append P (f ∷ fs) gs h k = (h.0, forms_append P fs gs h.1 k)

filter_append : (ws vs : List Wanted) → filter_map form_in (ws ++ vs) ≡ filter_map form_in ws ++ filter_map form_in vs
filter_append [] vs = refl
filter_append (form f ∷ ws) vs = let e = filter_append ws vs in λ i. f ∷ (e i)
filter_append (open_test ∷ ws) vs = filter_append ws vs
filter_append (none k ∷ ws) vs = filter_append ws vs

pub area_forms : (items : List Abs) → AllByRecursion IsAbs items → AllByRecursion IsForm (filter_map form_in (filter_map item_at items))
area_forms [] h = tt
area_forms (Known (Number y) ∷ items) h = (record { rise = tt }, area_forms items h.1)
area_forms (Known (Error k) ∷ items) h = area_forms items h.1
area_forms (Known (Text y) ∷ items) h = area_forms items h.1
area_forms (Known (Logical y) ∷ items) h = area_forms items h.1
area_forms (Known Empty ∷ items) h = area_forms items h.1
area_forms (Affine f ∷ items) h = (h.0.0, area_forms items h.1)
area_forms (Test f r ∷ items) h = area_forms items h.1

single_form : (a : Abs) (w : Wanted) → Fits a w → AllByRecursion IsForm (filter_map form_in (w ∷ []))
single_form a (none k) f = tt
single_form a (form g) (is_form f i u d) = (i, tt)
single_form a open_test f = tt

arg_forms : (a : AbsArg) → AllByRecursion IsAbs (elements_of a) → AllByRecursion IsForm (filter_map form_in (items_in a))
arg_forms (One a) h = single_form a (wanted a) (fits a h.0)
arg_forms (Area g) h = area_forms g.items h

pub all_forms : (args : List AbsArg) → AreSound args → AllByRecursion IsForm (forms_of args)
all_forms [] h = tt
all_forms (a ∷ args) h =
    subst (AllByRecursion IsForm) (sym (filter_append (items_in a) (flat_map items_in args))) (forms_append IsForm (filter_map form_in (items_in a)) _ (arg_forms a h.0) (all_forms args h.1))
