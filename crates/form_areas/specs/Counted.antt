-- How many numbers there are.
use Rattle.std.specs.Prelude.{ℕ, List, length, filter, flat_map}
use Rattle.form_values.specs.Meaning.{elements_of}
use Rattle.form_values.specs.declared.abs.AbsArg.{AbsArg}
use Rattle.form_table.specs.Items.{is_number, forms_of}

-- in areas and among single values
abbrev pub numbers_in : List AbsArg → ℕ
numbers_in args = length (filter is_number (flat_map elements_of args))

-- among the items of some arguments
abbrev pub items_among : List AbsArg → ℕ
items_among args = length (forms_of args)
