-- What is answered by a row is true where the row is right.
use Rattle.std.proofs.Common.{◌≡◌, sym, subst, ℕ, false, if◌then◌else◌, List, [], ◌∷◌, map, Result, Ok, Err}
use Rattle.std.specs.List.{list_all}
use Rattle.calculations.specs.Calculation.{exact}
use Rattle.calculations.proofs.CalculationLaws.{narrow-exact}
use Rattle.formula_ast.specs.declared.func.Func.TheVariants as func
use Rattle.sheet_funcs.specs.Table.{called}
use Rattle.sheet_funcs.specs.Arguments as functions
use Rattle.sheet_funcs.specs.Lookups.{hlookup_of, vlookup_of}
use Rattle.sheet_funcs.specs.Picks.{pick_of}
use Rattle.sheet_funcs.specs.Products as products
use Rattle.sheet_funcs.specs.declared.pick.Pick.{Pick}
use Rattle.sheet_model.specs.Grids.{Rectangle}
use Rattle.sheet_model.specs.declared.grid.Arg.{Arg}
use Rattle.cell_refs.specs.declared.error_kind.ErrorKind.{ErrorKind}
use Rattle.affine_forms.specs.Forms.{Assignment}
use Rattle.form_values.specs.Known.{all_known, values_in, known_arg}
use Rattle.form_values.specs.Meaning.{arg_at}
use Rattle.form_values.specs.Trials.{Trial, Undecided, Answers, made}
use Rattle.form_values.specs.declared.abs.Abs.{Abs}
use Rattle.form_values.specs.declared.abs.AbsArg.{AbsArg}
use Rattle.form_values.specs.declared.refusal.OpRefusal.{OpRefusal}
use Rattle.form_values.specs.declared.refusal.OpRefusal.TheVariants as refusal
use Rattle.form_table.specs.Lookups.{kinds_in, lookup_pick_form, record_form}
use Rattle.form_table.specs.Picks.{pick_form}
use Rattle.form_table.specs.Table.{form_called, row_of}
use Rattle.form_table.specs.Products.{transposed}
use Rattle.form_table.specs.Wanted.{grid_of, number_of, value_of}
use Rattle.form_ops.specs.FromFormTruth.{called_at}
use Rattle.form_ops.specs.FromFormTruth.{IsPick, IsRecord, first_column}
use Rattle.form_ops.specs.FromFormTruth.{FactorsBend, PairBends}
use Rattle.form_ops.proofs.FromFormTruth.{answers_right}
use Rattle.form_ops.proofs.FromFormTruth.{across_is_right, lookup_is_right}
use Rattle.form_ops.proofs.FromFormTruth.{found_is_right}
use Rattle.form_ops.proofs.FromFormTruth.{index_is_right}
use Rattle.form_ops.proofs.FromFormTruth.{mmult_is_right, sumproduct_is_right}
use Rattle.form_areas.specs.Truths.{IsFound, IsPicked, IsTrueAcross, IsTrueDown, IsTrueIndex, IsTrueLookup, IsTrueMatrixProduct, IsTrueProductSum}

-- ---- products
pub product_sum_true : (args : List AbsArg) (r : Result AbsArg OpRefusal) → list_all all_known args ≡ false → Answers (row_of func.SumProduct args) r → IsTrueProductSum args r
product_sum_true args r some_open h =
    answers_right (λ value args. FactorsBend args) (called_at func.SumProduct args) args (form_called func.SumProduct args) r (sumproduct_is_right args)
    (subst (λ b. Answers (if b then made known_arg (called func.SumProduct (map values_in args)) else row_of func.SumProduct args) r) (sym some_open) h)

two_true : (a b : AbsArg) (r : Result AbsArg OpRefusal) → list_all all_known (a ∷ b ∷ []) ≡ false → Answers (row_of func.MMult (a ∷ b ∷ [])) r → IsTrueMatrixProduct (a ∷ b ∷ []) r
two_true a b r some_open h a' b' e =
    let same_a : a ≡ a' = cc in
    let same_b : b ≡ b' = cc in
    subst (λ p. Rattle.form_ops.specs.FromFormTruth.IsAnswer (called_at func.MMult (a ∷ b ∷ [])) (a ∷ b ∷ []) (PairBends p b') r) same_a
    (subst (λ q. Rattle.form_ops.specs.FromFormTruth.IsAnswer (called_at func.MMult (a ∷ b ∷ [])) (a ∷ b ∷ []) (PairBends a q) r) same_b
    (answers_right (λ value args. PairBends a b) (called_at func.MMult (a ∷ b ∷ [])) (a ∷ b ∷ []) (form_called func.MMult (a ∷ b ∷ [])) r (mmult_is_right a b)
    (subst (λ t. Answers (if t then made known_arg (called func.MMult (map values_in (a ∷ b ∷ []))) else row_of func.MMult (a ∷ b ∷ [])) r) (sym some_open) h)))

pub matrix_product_true : (args : List AbsArg) (r : Result AbsArg OpRefusal) → list_all all_known args ≡ false → Answers (row_of func.MMult args) r → IsTrueMatrixProduct args r
matrix_product_true [] r some_open h a b e = cc
matrix_product_true (c ∷ []) r some_open h a b e = cc
matrix_product_true (c ∷ d ∷ []) r some_open h a b e = two_true c d r some_open h a b e
matrix_product_true (c ∷ d ∷ f ∷ others) r some_open h a b e = cc

-- ---- picks
pub picked_true : {A : Type 0} (value : Assignment → A) (args : List AbsArg) (c : Trial A) (r : Result A OpRefusal) → IsPick value args (exact c) → Answers c r → IsPicked value args r
picked_true value args c (Ok p) law h = subst (IsPick value args) (narrow-exact c (Ok p) h) law
picked_true value args c (Err refusal.Break) law h = tt
picked_true value args c (Err (refusal.Undecided i)) law h = subst (IsPick value args) (narrow-exact c (Err (Undecided i)) h) law
picked_true value args c (Err refusal.Wide) law h = tt
picked_true value args c (Err refusal.Memory) law h = tt

pub index_true : (rows columns : ℕ) (places : List AbsArg) (r : Result Pick OpRefusal) → Answers (pick_form rows columns places) r → IsTrueIndex rows columns places r
index_true rows columns places r h grid =
    picked_true (λ x. pick_of rows columns (map (arg_at x) places)) (grid ∷ places) (pick_form rows columns places) r (index_is_right rows columns grid places) h

pub lookup_true : (key keys kind : AbsArg) (r : Result Pick OpRefusal) → Answers (lookup_pick_form key keys (number_of kind)) r → IsTrueLookup key keys kind r
lookup_true key keys kind r h =
    picked_true _ (key ∷ keys ∷ kind ∷ []) (lookup_pick_form key keys (number_of kind)) r (found_is_right key keys kind) h

-- ---- VLOOKUP and HLOOKUP
abbrev Found : Type 0
Found = Result (Result (ℕ × ℕ) ErrorKind) OpRefusal

found_true : (value : Assignment → Arg) (table : Assignment → Rectangle) (args : List AbsArg) (c : Trial (Result (ℕ × ℕ) ErrorKind)) (r : Found) → IsRecord value table args (exact c) → Answers c r → IsFound value table args r
found_true value table args c (Ok p) law h = subst (IsRecord value table args) (narrow-exact c (Ok p) h) law
found_true value table args c (Err refusal.Break) law h = tt
found_true value table args c (Err (refusal.Undecided i)) law h = subst (IsRecord value table args) (narrow-exact c (Err (Undecided i)) h) law
found_true value table args c (Err refusal.Wide) law h = tt
found_true value table args c (Err refusal.Memory) law h = tt

pub down_true : (fields : ℕ) (keys : List Abs) (key field : AbsArg) (rest : List AbsArg) (r : Found) → Answers (record_form fields keys (value_of key) (number_of field) (kinds_in rest)) r → IsTrueDown fields keys key field rest r
down_true fields keys key field rest r h table e f =
    found_true (λ x. exact (vlookup_of (map (arg_at x) (key ∷ table ∷ field ∷ rest)))) (λ x. functions.grid_of (arg_at x table)) (key ∷ table ∷ field ∷ rest)
    (record_form (grid_of table).columns (first_column (grid_of table)) (value_of key) (number_of field) (kinds_in rest)) r
    (lookup_is_right key table field rest)
    (subst (λ n. Answers (record_form n (first_column (grid_of table)) (value_of key) (number_of field) (kinds_in rest)) r) e
    (subst (λ ks. Answers (record_form fields ks (value_of key) (number_of field) (kinds_in rest)) r) f h))

pub across_true : (fields : ℕ) (keys : List Abs) (key field : AbsArg) (rest : List AbsArg) (r : Found) → Answers (record_form fields keys (value_of key) (number_of field) (kinds_in rest)) r → IsTrueAcross fields keys key field rest r
across_true fields keys key field rest r h table e f =
    let turned = transposed (grid_of table) in
    found_true (λ x. exact (hlookup_of (map (arg_at x) (key ∷ table ∷ field ∷ rest)))) (λ x. products.transposed (functions.grid_of (arg_at x table))) (key ∷ table ∷ field ∷ rest)
    (record_form turned.columns (first_column turned) (value_of key) (number_of field) (kinds_in rest)) r
    (across_is_right key table field rest)
    (subst (λ n. Answers (record_form n (first_column turned) (value_of key) (number_of field) (kinds_in rest)) r) e
    (subst (λ ks. Answers (record_form fields ks (value_of key) (number_of field) (kinds_in rest)) r) f h))
