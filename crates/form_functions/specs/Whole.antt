-- Functions of which a formula looks at all arguments.
use Rattle.std.specs.Prelude.{Bool, true, false}
use Rattle.formula_ast.specs.declared.func.Func.{Func}
use Rattle.formula_ast.specs.declared.func.Func.TheVariants as func

-- whether a formula looks at all of a function's arguments, whatever they are
abbrev pub is_whole : Func → Bool
is_whole func.If = false
is_whole func.IfError = false
is_whole func.Choose = false
is_whole func.Index = false
is_whole func.VLookup = false
is_whole func.HLookup = false
is_whole func.SumIf = false
is_whole func.Rows = false
is_whole func.Columns = false
is_whole f = true
