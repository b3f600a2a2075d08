-- What a call that chooses looks at.
use Rattle.std.proofs.Common.{◌≡◌, List, ◌∷◌, ◌++◌, sym, ap, ◌∙◌, Some}
use Rattle.formula_ast.specs.declared.func.Func.{Func}
use Rattle.sheet_model.specs.declared.grid.Arg.{Arg}
use Rattle.recalculation.specs.Evaluation.{at_chosen, chosen_place}
use Rattle.recalculation.specs.Looking.{by_value}
use Rattle.recalculation.specs.Looks.{Argument, then_cells, looks_of, chosen_looks, choosing_looks, decided}
use Rattle.recalculation.proofs.Deciding.{decided_is}

-- by the value of its first argument
pub looks_are : (f : Func) (a : Argument Arg) (others : List (Argument Arg)) (v : Arg) → a.outcome ≡ Some v
    → a.looks ++ looks_of (at_chosen others (chosen_place f v)) ≡ choosing_looks by_value f (a ∷ others)
looks_are f a others v is =
    sym (ap (λ o. a.looks ++ then_cells o (λ v. chosen_looks f others (decided by_value f v))) is
    ∙ ap (λ o. a.looks ++ chosen_looks f others o) (decided_is f v))
