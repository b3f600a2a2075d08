-- The first error among the elements of some arguments.
use Rattle.std.proofs.Common.{◌≡◌, refl, sym, ap, ◌∙◌, List, [], ◌∷◌, ◌++◌, map, Option, Some, None}
use Rattle.cell_refs.specs.declared.error_kind.ErrorKind.{ErrorKind}
use Rattle.sheet_model.specs.declared.value.Value.{Value}
use Rattle.sheet_model.specs.declared.value.Value.TheVariants.{Number, Text, Logical, Empty, Error}
use Rattle.sheet_model.specs.declared.grid.Arg.{Arg}
use Rattle.sheet_funcs.specs.Arguments.{elements_of, first_error, grid_of}
use Rattle.sheet_funcs.specs.Products.{all_elements}

-- the first of two
abbrev sooner : Option ErrorKind → Option ErrorKind → Option ErrorKind
sooner (Some k) later = Some k
sooner None later = later

error-append : (xs ys : List Value) → first_error (xs ++ ys) ≡ sooner (first_error xs) (first_error ys)
error-append [] ys = refl
error-append (Error k ∷ xs) ys = refl
error-append (Number x ∷ xs) ys = error-append xs ys
error-append (Text t ∷ xs) ys = error-append xs ys
error-append (Logical b ∷ xs) ys = error-append xs ys
error-append (Empty ∷ xs) ys = error-append xs ys

-- the error of the first argument, or of the others
pub argument_first : (whole : Option ErrorKind) (rest : List Arg) (a : Arg) (others : List Arg) (o : Option ErrorKind) → rest ≡ a ∷ others → whole ≡ first_error (all_elements (map grid_of rest))
    → o ≡ first_error (elements_of a) → whole ≡ sooner o (first_error (all_elements (map grid_of others)))
argument_first whole rest a others o e all found =
    all ∙ ap (λ xs. first_error (all_elements (map grid_of xs))) e ∙ error-append (elements_of a) (all_elements (map grid_of others))
    ∙ ap (λ p. sooner p (first_error (all_elements (map grid_of others)))) (sym found)
