-- What the first argument of a function that chooses decides, and what is looked at where it doesn't.
use Rattle.std.proofs.Common.{◌≡◌, ◌++◌, ap, ◌∙◌, append-nil, refl, Some}
use Rattle.std.specs.Option.{option_map}
use Rattle.formula_ast.specs.declared.func.Func.{Func}
use Rattle.formula_ast.specs.declared.func.Func.TheVariants as func
use Rattle.sheet_model.specs.declared.grid.Arg.{Arg}
use Rattle.recalculation.specs.Evaluation.{if_place, iferror_place, choose_place, chosen_place}
use Rattle.recalculation.specs.Looks.{then_cells, chosen_looks, decided}
use Rattle.recalculation.specs.Looking.{by_value}
use Rattle.recalculation.specs.Laws.{UndecidedIfLooksAtAll, UndecidedLooksAtItself}

-- a value decides which argument is chosen
pub decided_is : (f : Func) (a : Arg) → decided by_value f a ≡ Some (chosen_place f a)
decided_is func.If a = refl
decided_is func.IfError a = refl
decided_is _ a = refl

-- ---- where it doesn't
pub undecided_if : UndecidedIfLooksAtAll
undecided_if d known a others v is h =
    ap (λ o. a.looks ++ then_cells o (λ v. chosen_looks func.If others (decided d func.If v))) is
    ∙ ap (λ o. a.looks ++ chosen_looks func.If others (option_map if_place o)) h

pub undecided_other : UndecidedLooksAtItself
undecided_other d known a others v is = (
  λ h. ap (λ o. a.looks ++ then_cells o (λ v. chosen_looks func.IfError others (decided d func.IfError v))) is
      ∙ ap (λ o. a.looks ++ chosen_looks func.IfError others (option_map iferror_place o)) h
      ∙ append-nil a.looks,
  λ h. ap (λ o. a.looks ++ then_cells o (λ v. chosen_looks func.Choose others (decided d func.Choose v))) is
      ∙ ap (λ o. a.looks ++ chosen_looks func.Choose others (option_map choose_place o)) h
      ∙ append-nil a.looks,
)
