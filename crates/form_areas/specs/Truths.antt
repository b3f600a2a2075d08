-- What an answer says of the values under all assignments.
use Rattle.std.specs.Prelude.{◌≡◌, ℕ, List, [], ◌∷◌, map, Result, Ok, Err, ⊤}
use Rattle.calculations.specs.Calculation.{exact}
use Rattle.cell_refs.specs.declared.error_kind.ErrorKind.{ErrorKind}
use Rattle.formula_ast.specs.declared.func.Func.TheVariants as func
use Rattle.sheet_model.specs.Grids.{Rectangle}
use Rattle.sheet_model.specs.declared.grid.Arg.{Arg}
use Rattle.sheet_model.specs.declared.grid.Arg.TheVariants.{One}
use Rattle.sheet_funcs.specs.Arguments as functions
use Rattle.sheet_funcs.specs.Lookups.{lookup_pick, vlookup_of, hlookup_of}
use Rattle.sheet_funcs.specs.Picks.{pick_of}
use Rattle.sheet_funcs.specs.Products as products
use Rattle.sheet_funcs.specs.Rounding.{number_of}
use Rattle.sheet_funcs.specs.declared.pick.Pick.{Pick}
use Rattle.affine_forms.specs.Forms.{Assignment}
use Rattle.form_values.specs.Meaning.{arg_at}
use Rattle.form_values.specs.declared.abs.Abs.{Abs}
use Rattle.form_values.specs.declared.abs.AbsArg.{AbsArg}
use Rattle.form_values.specs.declared.refusal.OpRefusal.{OpRefusal}
use Rattle.form_values.specs.declared.refusal.OpRefusal.TheVariants as refusal
use Rattle.form_table.specs.Products.{transposed}
use Rattle.form_table.specs.Wanted.{grid_of}
use Rattle.form_ops.specs.FromFormTruth.{IsAnswer}
use Rattle.form_ops.specs.FromFormTruth.{called_at}
use Rattle.form_ops.specs.FromFormTruth.{first_column, read}
use Rattle.form_ops.specs.FromFormTruth.{FactorsBend, PairBends}
use Rattle.form_ops.specs.FromFormTruth.{ArgumentVaries}

-- ---- products
-- of SUMPRODUCT: where the answer is Break, the product of some first factors in one place isn't affine
abbrev pub IsTrueProductSum : List AbsArg → Result AbsArg OpRefusal → Type 0
IsTrueProductSum args answer = IsAnswer (called_at func.SumProduct args) args (FactorsBend args) answer

-- of MMULT: where the answer is Break, the product of an element of a row and one of a column isn't affine
abbrev pub IsTrueMatrixProduct : List AbsArg → Result AbsArg OpRefusal → Type 0
IsTrueMatrixProduct args answer =
    (a b : AbsArg) → args ≡ a ∷ b ∷ [] → IsAnswer (called_at func.MMult args) args (PairBends a b) answer

-- ---- picks
-- what is given is picked under every assignment; and an argument that leaves it undecided isn't the same under all
abbrev pub IsPicked : {A : Type 0} → (Assignment → A) → List AbsArg → Result A OpRefusal → Type 0
IsPicked value args (Ok p) = (x : Assignment) → value x ≡ p
IsPicked value args (Err (refusal.Undecided i)) = ArgumentVaries arg_at args i
IsPicked value args (Err _) = ⊤

-- of INDEX, whatever the grid is that is its first argument
abbrev pub IsTrueIndex : ℕ → ℕ → List AbsArg → Result Pick OpRefusal → Type 0
IsTrueIndex rows columns places answer =
    (grid : AbsArg) → IsPicked (λ x. pick_of rows columns (map (arg_at x) places)) (grid ∷ places) answer

-- of MATCH
abbrev pub IsTrueLookup : AbsArg → AbsArg → AbsArg → Result Pick OpRefusal → Type 0
IsTrueLookup key keys kind answer =
    IsPicked (λ x. lookup_pick (arg_at x key) (arg_at x keys) (number_of (arg_at x kind))) (key ∷ keys ∷ kind ∷ []) answer

-- what is given is the place of the value, or the error that it is, in the table under every assignment
abbrev pub IsFound : (Assignment → Arg) → (Assignment → Rectangle) → List AbsArg → Result (Result (ℕ × ℕ) ErrorKind) OpRefusal → Type 0
IsFound value table args (Ok r) = (x : Assignment) → value x ≡ One (read (table x) r)
IsFound value table args (Err (refusal.Undecided i)) = ArgumentVaries arg_at args i
IsFound value table args (Err _) = ⊤

-- of VLOOKUP in a table whose first column has these keys
abbrev pub IsTrueDown : ℕ → List Abs → AbsArg → AbsArg → List AbsArg → Result (Result (ℕ × ℕ) ErrorKind) OpRefusal → Type 0
IsTrueDown fields keys key field rest answer =
    (table : AbsArg) → fields ≡ (grid_of table).columns → keys ≡ first_column (grid_of table)
    → IsFound (λ x. exact (vlookup_of (map (arg_at x) (key ∷ table ∷ field ∷ rest)))) (λ x. functions.grid_of (arg_at x table)) (key ∷ table ∷ field ∷ rest) answer

-- of HLOOKUP in a table whose first row has these keys; what is given is the place in the table with rows and columns exchanged
abbrev pub IsTrueAcross : ℕ → List Abs → AbsArg → AbsArg → List AbsArg → Result (Result (ℕ × ℕ) ErrorKind) OpRefusal → Type 0
IsTrueAcross fields keys key field rest answer =
    (table : AbsArg) → fields ≡ (transposed (grid_of table)).columns → keys ≡ first_column (transposed (grid_of table))
    → IsFound (λ x. exact (hlookup_of (map (arg_at x) (key ∷ table ∷ field ∷ rest)))) (λ x. products.transposed (functions.grid_of (arg_at x table))) (key ∷ table ∷ field ∷ rest) answer
