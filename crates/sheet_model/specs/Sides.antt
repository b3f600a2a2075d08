-- What an operator takes of an argument.
use Rattle.sheet_model.specs.declared.grid.Arg.{Arg}
use Rattle.sheet_model.specs.declared.grid.Arg.TheVariants as arg
use Rattle.sheet_model.specs.declared.operators.Side.{Side}
use Rattle.sheet_model.specs.declared.operators.Side.TheVariants.{One, Area}

-- the argument that a side stands for
abbrev pub side_value : Side → Arg
side_value (One v) = arg.One v.now
side_value (Area g) = arg.Area g.now
