-- What code answers on narrow numbers is right where the row is.
use Rattle.std.specs.Prelude.{List, Result, Ok, Err, ⊤}
use Rattle.calculations.specs.Calculation.{exact}
use Rattle.sheet_model.specs.declared.grid.Arg.{Arg}
use Rattle.affine_forms.specs.Forms.{Assignment}
use Rattle.form_values.specs.Meaning.{arg_at}
use Rattle.form_values.specs.Trials.{Trial, Answers}
use Rattle.form_values.specs.declared.abs.AbsArg.{AbsArg}
use Rattle.form_values.specs.declared.refusal.OpRefusal.{OpRefusal}
use Rattle.form_values.specs.declared.refusal.OpRefusal.TheVariants as refusal
use Rattle.form_truth.specs.Rows.{Represents, ArgumentVaries, IsOutcome}

-- an answer represents the value, or is refused for a reason that two assignments show
abbrev pub IsAnswer : (Assignment → Arg) → List AbsArg → Type 0 → Result AbsArg OpRefusal → Type 0
IsAnswer value args SomethingBends (Ok a) = Represents value a
IsAnswer value args SomethingBends (Err refusal.Break) = SomethingBends
IsAnswer value args SomethingBends (Err (refusal.Undecided i)) = ArgumentVaries arg_at args i
IsAnswer value args SomethingBends (Err refusal.Wide) = ⊤
IsAnswer value args SomethingBends (Err refusal.Memory) = ⊤

-- whatever is said to bend
abbrev pub AnswersAreRight : ((Assignment → Arg) → List AbsArg → Type 0) → Type 0
AnswersAreRight SomethingBends =
    (value : Assignment → Arg) (args : List AbsArg) (row : Trial AbsArg) (answer : Result AbsArg OpRefusal)
    → IsOutcome value args (SomethingBends value args) (exact row) → Answers row answer → IsAnswer value args (SomethingBends value args) answer
