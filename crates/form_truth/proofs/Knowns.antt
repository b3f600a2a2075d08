-- Of known arguments a row is the function.
use Rattle.std.specs.List.{list_all}
use Rattle.std.proofs.Common.{◌≡◌, refl, sym, ap₂, true, true≢false, List, [], ◌∷◌, map}
use Rattle.sheet_model.specs.declared.value.Value.{Value}
use Rattle.sheet_model.specs.declared.grid.Arg.{Arg}
use Rattle.sheet_model.specs.declared.grid.Arg.TheVariants as arg
use Rattle.affine_forms.specs.Forms.{Assignment}
use Rattle.form_values.specs.Meaning.{abs_at, arg_at}
use Rattle.form_values.specs.declared.abs.Abs.{Abs}
use Rattle.form_values.specs.declared.abs.Abs.TheVariants.{Known, Affine, Test}
use Rattle.form_values.specs.declared.abs.AbsArg.{AbsArg}
use Rattle.form_values.specs.declared.abs.AbsArg.TheVariants.{One, Area}
use Rattle.form_values.specs.Known.{is_known, value_in, all_known, values_in, known_arg}
use Rattle.form_truth.proofs.Sameness.{both_true}

items_in : (x : Assignment) (items : List Abs) → list_all is_known items ≡ true → map (abs_at x) items ≡ map value_in items
items_in x [] e = refl
items_in x (Known v ∷ items) e = let r = items_in x items e in λ i. v ∷ (r i)
items_in x (Affine f ∷ items) e = absurd (true≢false (sym e))
items_in x (Test f r ∷ items) e = absurd (true≢false (sym e))

known_in : (x : Assignment) (a : AbsArg) → all_known a ≡ true → arg_at x a ≡ values_in a
known_in x (One (Known v)) e = refl
known_in x (One (Affine f)) e = absurd (true≢false (sym e))
known_in x (One (Test f r)) e = absurd (true≢false (sym e))
known_in x (Area g) e = let r = items_in x g.items e in λ i. arg.Area (record { rows = g.rows; columns = g.columns; items = r i })

pub all_in : (x : Assignment) (args : List AbsArg) → list_all all_known args ≡ true → map (arg_at x) args ≡ map values_in args
all_in x [] e = refl
all_in x (a ∷ args) e = let b = both_true (all_known a) (list_all all_known args) e in ap₂ (λ v vs. v ∷ vs) (known_in x a b.0) (all_in x args b.1)

elements_back : (x : Assignment) (vs : List Value) → map (abs_at x) (map Known vs) ≡ vs
elements_back x [] = refl
elements_back x (v ∷ vs) = let e = elements_back x vs in λ i. v ∷ (e i)

pub known_back : (x : Assignment) (v : Arg) → arg_at x (known_arg v) ≡ v
known_back x (arg.One v) = refl
known_back x (arg.Area g) = let e = elements_back x g.items in λ i. arg.Area (record { rows = g.rows; columns = g.columns; items = e i })
