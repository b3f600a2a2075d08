-- Why there is no value, where an operation on forms or on known values has none; and known values.
use Rattle.std.specs.Prelude.{⊤}
use Rattle.cell_refs.specs.declared.error_kind.ErrorKind.TheVariants as kind
use Rattle.affine_forms.specs.declared.stop.FormStop.{FormStop}
use Rattle.affine_forms.specs.declared.stop.FormStop.TheVariants as form_stop
use Rattle.sheet_model.specs.declared.stop.FuncStop.{FuncStop}
use Rattle.sheet_model.specs.declared.stop.FuncStop.TheVariants as function_stop
use Rattle.sheet_model.specs.declared.grid.Arg.{Arg}
use Rattle.sheet_model.specs.declared.grid.Arg.TheVariants as arg
use Rattle.sheet_model.specs.declared.value.Value.TheVariants.{Error}
use Rattle.form_values.specs.declared.refusal.OpRefusal.{OpRefusal}
use Rattle.form_values.specs.declared.refusal.OpRefusal.TheVariants.{Wide, Memory}
use Rattle.form_values.specs.declared.abs.Abs.{Abs}
use Rattle.form_values.specs.declared.abs.Abs.TheVariants.{Known}

abbrev pub form_refusal : FormStop → OpRefusal
form_refusal form_stop.Wide = Wide
form_refusal form_stop.Memory = Memory

abbrev pub function_refusal : FuncStop → OpRefusal
function_refusal function_stop.Wide = Wide
function_refusal function_stop.Memory = Memory

-- the single value that is known; the error stands for an area
abbrev pub only_known : Arg → Abs
only_known (arg.One v) = Known v
only_known (arg.Area g) = Known (Error kind.Value)

-- it isn't for want of memory
abbrev pub IsNoWant : OpRefusal → Type 0
IsNoWant Memory = ⊥
IsNoWant _ = ⊤
