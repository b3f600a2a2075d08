-- Values and arguments that are known, that is the same at every assignment.
use Rattle.std.specs.Prelude.{Bool, true, false, map}
use Rattle.std.specs.List.{list_all}
use Rattle.sheet_model.specs.declared.value.Value.{Value}
use Rattle.sheet_model.specs.declared.value.Value.TheVariants.{Empty}
use Rattle.sheet_model.specs.declared.grid.Arg.{Arg}
use Rattle.sheet_model.specs.declared.grid.Arg.TheVariants as arg
use Rattle.form_values.specs.Meaning.{elements_of}
use Rattle.form_values.specs.declared.abs.Abs.{Abs}
use Rattle.form_values.specs.declared.abs.Abs.TheVariants.{Known}
use Rattle.form_values.specs.declared.abs.AbsArg.{AbsArg}
use Rattle.form_values.specs.declared.abs.AbsArg.TheVariants.{One, Area}

abbrev pub is_known : Abs → Bool
is_known (Known v) = true
is_known _ = false

-- the known value, and what is empty in the place of another
abbrev pub value_in : Abs → Value
value_in (Known v) = v
value_in _ = Empty

-- whether each element is known
abbrev pub all_known : AbsArg → Bool
all_known a = list_all is_known (elements_of a)

-- the known elements, and what is empty in the place of another
abbrev pub values_in : AbsArg → Arg
values_in (One a) = arg.One (value_in a)
values_in (Area g) = arg.Area (record { rows = g.rows; columns = g.columns; items = map value_in g.items })

-- a known argument
abbrev pub known_arg : Arg → AbsArg
known_arg (arg.One v) = One (Known v)
known_arg (arg.Area g) = Area (record { rows = g.rows; columns = g.columns; items = map Known g.items })
