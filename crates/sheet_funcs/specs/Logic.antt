-- AND, OR, NOT, TRUE and FALSE (OpenDocument 1.2 part 2, sections 6.15.2, 6.15.8, 6.15.7, 6.15.9 and 6.15.3).
use Rattle.std.specs.Prelude.{Bool, true, false, not, List, []}
use Rattle.std.specs.List.{list_all, list_any}
use Rattle.calculations.specs.Calculation.{Calculation}
use Rattle.cell_refs.specs.declared.error_kind.ErrorKind.TheVariants as kind
use Rattle.sheet_model.specs.Conversions.{logical_in}
use Rattle.sheet_model.specs.declared.value.Value.TheVariants.{Logical, Error}
use Rattle.sheet_model.specs.declared.grid.Arg.{Arg}
use Rattle.sheet_funcs.specs.Arguments.{value_of, answered, on_ok}
use Rattle.sheet_funcs.specs.Items.{logicals_of}

-- what is made of some logicals; of none an error
abbrev pub of_some : (List Bool → Bool) → List Bool → Calculation Arg
of_some f [] = answered (Error kind.Value)
of_some f bs = answered (Logical (f bs))

abbrev pub and_of : List Arg → Calculation Arg
and_of args = on_ok (logicals_of args) (of_some (list_all (λ b. b)))

abbrev pub or_of : List Arg → Calculation Arg
or_of args = on_ok (logicals_of args) (of_some (list_any (λ b. b)))

abbrev pub not_of : Arg → Calculation Arg
not_of a = on_ok (logical_in (value_of a)) (λ b. answered (Logical (not b)))

abbrev pub true_of : Calculation Arg
true_of = answered (Logical true)

abbrev pub false_of : Calculation Arg
false_of = answered (Logical false)
