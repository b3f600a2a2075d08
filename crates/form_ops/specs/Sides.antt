-- What an operator takes of an argument.
use Rattle.form_values.specs.declared.abs.AbsArg.{AbsArg}
use Rattle.form_values.specs.declared.abs.AbsArg.TheVariants as arg
use Rattle.form_ops.specs.declared.lifting.Side.{Side}
use Rattle.form_ops.specs.declared.lifting.Side.TheVariants.{One, Area}

-- the argument that a side stands for
abbrev pub side_value : Side → AbsArg
side_value (One a) = arg.One a.now
side_value (Area g) = arg.Area g.now
