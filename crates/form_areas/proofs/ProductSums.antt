-- Products of grids.
use Rattle.std.proofs.Common.{◌≡◌, ◌≤◌, ◌-◌, arith, refl, sym, ap, ◌∙◌, subst, true, ℕ, List, [], ◌∷◌, ◌++◌, length, map, take, drop, get_or, Option, Some, None, Result, Ok, Err}
use Rattle.std.specs.Prelude.{flat_map}
use Rattle.std.specs.List.{list_all}
use Rattle.std.proofs.lemmas.Grind.{common_steps}
use Rattle.calculations.specs.Calculation.{narrow}
use Rattle.cell_refs.specs.declared.error_kind.ErrorKind.{ErrorKind}
use Rattle.sheet_funcs.specs.Arguments.{below}
use Rattle.sheet_model.specs.declared.value.Value.TheVariants.{Number, Text, Logical, Empty, Error}
use Rattle.affine_forms.specs.Forms.{AffineForm}
use Rattle.form_values.specs.Entries.{entry}
use Rattle.form_values.specs.Grids.{Raster}
use Rattle.form_values.specs.Meaning.{elements_of}
use Rattle.form_values.specs.Trials.{Trial, Answers, and_then, given, one}
use Rattle.form_values.specs.declared.abs.Abs.{Abs}
use Rattle.form_values.specs.declared.abs.Abs.TheVariants.{Known, Affine, Test}
use Rattle.form_values.specs.declared.abs.AbsArg.{AbsArg}
use Rattle.form_values.specs.declared.abs.AbsArg.TheVariants as arg
use Rattle.form_values.specs.declared.refusal.OpRefusal.{OpRefusal}
use Rattle.form_table.specs.Products.{dot, error_among, factors_at, is_of_size, sumproduct_form}
use Rattle.form_table.specs.Wanted.{grid_of}
use Rattle.form_ops.proofs.Answering.{then_answers}

-- ---- errors
abbrev sooner : Option ErrorKind → Option ErrorKind → Option ErrorKind
sooner (Some k) later = Some k
sooner None later = later

error-append : (xs ys : List Abs) → error_among (xs ++ ys) ≡ sooner (error_among xs) (error_among ys)
error-append [] ys = refl
error-append (Known (Error k) ∷ xs) ys = refl
error-append (Known (Number x) ∷ xs) ys = error-append xs ys
error-append (Known (Text t) ∷ xs) ys = error-append xs ys
error-append (Known (Logical b) ∷ xs) ys = error-append xs ys
error-append (Known Empty ∷ xs) ys = error-append xs ys
error-append (Affine f ∷ xs) ys = error-append xs ys
error-append (Test f r ∷ xs) ys = error-append xs ys

abbrev pub all_items : List AbsArg → List Abs
all_items args = flat_map (λ (h : Raster). h.items) (map grid_of args)

-- the error of the first argument, or of the others
pub argument_first : (whole : Option ErrorKind) (rest : List AbsArg) (a : AbsArg) (others : List AbsArg) (o : Option ErrorKind) → rest ≡ a ∷ others
    → whole ≡ error_among (all_items rest) → o ≡ error_among (grid_of a).items → whole ≡ sooner o (error_among (all_items others))
argument_first whole rest a others o e all found =
    all ∙ ap (λ xs. error_among (all_items xs)) e ∙ error-append (grid_of a).items (all_items others) ∙ ap (λ p. sooner p (error_among (all_items others))) (sym found)

-- the elements are those of the grid
pub grid_items : (a : AbsArg) → elements_of a ≡ (grid_of a).items
grid_items (arg.One a) = refl
grid_items (arg.Area g) = refl

-- ---- SUMPRODUCT
-- a list of some and its first
pub first_others : (args : List AbsArg) (d : AbsArg) → 1 ≤ length args → args ≡ get_or args 0 d ∷ take (length args - 1) (drop 1 args)
first_others [] d h = absurd (omega arith)
first_others (a ∷ others) d h = ap (λ r. a ∷ r) (grind (arith, common_steps))

-- a sum as the result
abbrev pub as_result : Trial AffineForm → Trial AbsArg
as_result c = one (and_then c (λ f. given (entry f)))

pub result_given : (c : Trial AffineForm) (f : AffineForm) → narrow c ≡ Some (Ok f) → narrow (as_result c) ≡ Some (Ok (arg.One (entry f)))
result_given c f h = then_answers arg.One (and_then c (λ f. given (entry f))) (Ok (entry f)) (then_answers entry c (Ok f) h)

pub result_refused : (c : Trial AffineForm) (e : OpRefusal) → Answers c (Err e) → Answers (as_result c) (Err e)
result_refused c e h = then_answers arg.One (and_then c (λ f. given (entry f))) (Err e) (then_answers entry c (Err e) h)

pub sumproduct_answers : (args : List AbsArg) (a : AbsArg) (others : List AbsArg) (n : ℕ) (r : Result AbsArg OpRefusal) → args ≡ a ∷ others → None ≡ error_among (all_items args)
    → list_all (is_of_size (grid_of a)) (map grid_of others) ≡ true → n ≡ length (grid_of a).items → Answers (as_result (dot (map (factors_at (map grid_of args)) (below n)))) r → Answers (sumproduct_form args) r
sumproduct_answers args a others n r e none sizes same h =
    subst (λ xs. None ≡ error_among (all_items xs) → Answers (as_result (dot (map (factors_at (map grid_of xs)) (below n)))) r → Answers (sumproduct_form xs) r) (sym e)
    (λ none h. rw (← none, sizes, ← same) h) none h
