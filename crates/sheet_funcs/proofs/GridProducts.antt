-- Products of grids.
use Rattle.std.proofs.Common.{◌≡◌, ◌≤◌, ◌*◌, arith, refl, sym, ap, ◌∙◌, subst, true, ℕ, List, [], ◌∷◌, length, map, take, drop, get_or, ◌-◌, Option, Some, None, Result, Err}
use Rattle.std.specs.Prelude.{option_map}
use Rattle.std.specs.List.{list_all}
use Rattle.std.specs.Result.{IsErrAnd}
use Rattle.std.proofs.lemmas.Grind.{common_steps}
use Rattle.fractions.specs.Rational.{ℚ}
use Rattle.calculations.specs.Calculation.{for_each, narrow}
use Rattle.calculations.proofs.CalculationLaws.{narrow-turned_into}
use Rattle.sheet_model.specs.Answers.{Answers}
use Rattle.sheet_model.specs.Grids.{Rectangle}
use Rattle.sheet_model.specs.declared.grid.Arg.{Arg}
use Rattle.sheet_model.specs.declared.grid.Arg.TheVariants.{Area}
use Rattle.sheet_model.specs.declared.stop.FuncStop.{FuncStop}
use Rattle.sheet_model.specs.declared.value.Value.{Value}
use Rattle.sheet_model.specs.declared.value.Value.TheVariants.{Number}
use Rattle.sheet_model.proofs.Spreading.{stopped}
use Rattle.sheet_funcs.specs.Arguments.{below, counted, elements_of, first_error, grid_of}
use Rattle.sheet_funcs.specs.Matrices.{grid_product, value_at}
use Rattle.sheet_funcs.specs.Products.{all_elements, dot, factors_at, is_of_size, of_numbers, places_of, product_at, sumproduct_of}
use Rattle.sheet_funcs.proofs.Placed.{each-length, each-turned}
use Rattle.sheet_funcs.proofs.Ranges.{length-places}

-- ---- SUMPRODUCT
-- a list of some and its first
pub first_others : (args : List Arg) (d : Arg) → 1 ≤ length args → args ≡ get_or args 0 d ∷ take (length args - 1) (drop 1 args)
first_others [] d h = absurd (omega arith)
first_others (a ∷ others) d h = ap (λ r. a ∷ r) (grind (arith, common_steps))

pub sumproduct_answers : (args : List Arg) (a : Arg) (others : List Arg) (n : ℕ) (r : Result Arg FuncStop) → args ≡ a ∷ others → None ≡ first_error (all_elements (map grid_of args))
    → list_all (is_of_size (grid_of a)) (map grid_of others) ≡ true → n ≡ length (elements_of a) → Answers (counted (dot (map (factors_at (map grid_of args)) (below n)))) r → Answers (sumproduct_of args) r
sumproduct_answers args a others n r e none sizes same h =
    subst (λ xs. None ≡ first_error (all_elements (map grid_of xs)) → Answers (counted (dot (map (factors_at (map grid_of xs)) (below n)))) r → Answers (sumproduct_of xs) r) (sym e)
    (λ none h. rw (← none, sizes, ← same) h) none h

-- ---- MMULT
-- the elements as numbers
grid_of_values : (rows columns : ℕ) (o : Option (List ℚ)) (items : List Value) → option_map (map Number) o ≡ Some items → option_map (of_numbers rows columns) o ≡ Some (Area (record { rows = rows; columns = columns; items = items }))
grid_of_values rows columns None items e = cc
grid_of_values rows columns (Some xs) items e = let same : map Number xs ≡ items = cc in ap (λ vs. Some (Area (record { rows = rows; columns = columns; items = vs }))) same

no_values : (rows columns : ℕ) (o : Option (List ℚ)) → option_map (map Number) o ≡ None → option_map (of_numbers rows columns) o ≡ None
no_values rows columns None e = refl
no_values rows columns (Some xs) e = cc

product-narrow : (g h : Rectangle) → narrow (grid_product g h) ≡ option_map (of_numbers g.rows h.columns) (narrow (for_each (product_at g h) (places_of g.rows h.columns)))
product-narrow g h = narrow-turned_into (of_numbers g.rows h.columns) (for_each (product_at g h) (places_of g.rows h.columns))

pub product_answers : (g h : Rectangle) (items : List Value) (a : Arg) → narrow (for_each (value_at g h) (places_of g.rows h.columns)) ≡ Some items → a ≡ Area (record { rows = g.rows; columns = h.columns; items = items })
    → narrow (grid_product g h) ≡ Some a
product_answers g h items a e same =
    product-narrow g h ∙ grid_of_values g.rows h.columns _ items (sym (each-turned Number (product_at g h) (places_of g.rows h.columns)) ∙ e) ∙ ap Some (sym same)

pub product_stops : (g h : Rectangle) (e : FuncStop) (r : Result Arg FuncStop) → IsErrAnd r (λ s. s ≡ e) → Answers (for_each (value_at g h) (places_of g.rows h.columns)) (Err e) → Answers (grid_product g h) r
product_stops g h e r is part =
    stopped (for_each (value_at g h) (places_of g.rows h.columns)) (grid_product g h) e r is part
    (λ wide. product-narrow g h ∙ no_values g.rows h.columns _ (sym (each-turned Number (product_at g h) (places_of g.rows h.columns)) ∙ wide))

pub product_size : (g h : Rectangle) (items : List Value) (rows columns : ℕ) → narrow (for_each (value_at g h) (places_of g.rows h.columns)) ≡ Some items → rows ≡ g.rows → columns ≡ h.columns → length items ≡ rows * columns
product_size g h items rows columns e f k = rw (f, k) (each-length (value_at g h) (places_of g.rows h.columns) items e ∙ length-places g.rows h.columns)
