-- When an outcome is right for a value, also of single values.
use Rattle.std.specs.Prelude.{◌≡◌, List, Result, Ok, Err}
use Rattle.sheet_model.specs.declared.value.Value.{Value}
use Rattle.sheet_model.specs.declared.grid.Arg.{Arg}
use Rattle.sheet_funcs.specs.Arguments.{elements_of}
use Rattle.affine_forms.specs.Forms.{Assignment}
use Rattle.form_values.specs.Meaning.{abs_at, arg_at}
use Rattle.form_values.specs.Refusals.{Bends, SomeBends}
use Rattle.form_values.specs.Trials.{Refusal, Breaks, Undecided}
use Rattle.form_values.specs.declared.abs.Abs.{Abs}
use Rattle.form_values.specs.declared.abs.AbsArg.{AbsArg}
pub use Rattle.form_truth.specs.Rows.{ArgumentVaries}

-- of single values
abbrev pub IsRight : (Assignment → Value) → List Abs → Result Abs Refusal → Type 0
IsRight value args (Ok a) = (x : Assignment) → value x ≡ abs_at x a
IsRight value args (Err Breaks) = Bends value
IsRight value args (Err (Undecided i)) = ArgumentVaries abs_at args i

-- where a refusal says that something bends
abbrev pub IsRightSum : (Assignment → Arg) → List AbsArg → Type 0 → Result AbsArg Refusal → Type 0
IsRightSum value args SomethingBends (Ok a) = (x : Assignment) → value x ≡ arg_at x a
IsRightSum value args SomethingBends (Err Breaks) = SomethingBends
IsRightSum value args SomethingBends (Err (Undecided i)) = ArgumentVaries arg_at args i

-- of arguments that may be grids
abbrev pub IsRightArg : (Assignment → Arg) → List AbsArg → Result AbsArg Refusal → Type 0
IsRightArg value args (Ok a) = (x : Assignment) → value x ≡ arg_at x a
IsRightArg value args (Err Breaks) = SomeBends (λ x. elements_of (value x))
IsRightArg value args (Err (Undecided i)) = ArgumentVaries arg_at args i
