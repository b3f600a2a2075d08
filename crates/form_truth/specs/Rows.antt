-- When an outcome of the form table is right for a value that depends on the assignment (Chvatal, Linear Programming, chapter 1; values
-- and functions are those of OpenDocument 1.2 part 2, section 6).
use Rattle.std.specs.Prelude.{◌≡◌, ℕ, List, slice_get, Some, Result, Ok, Err}
use Rattle.sheet_model.specs.declared.grid.Arg.{Arg}
use Rattle.sheet_funcs.specs.Arguments.{elements_of}
use Rattle.affine_forms.specs.Forms.{Assignment}
use Rattle.form_values.specs.Meaning.{arg_at}
use Rattle.form_values.specs.Refusals.{SomeBends, Varies}
use Rattle.form_values.specs.Trials.{Refusal, Breaks, Undecided}
use Rattle.form_values.specs.declared.abs.AbsArg.{AbsArg}

-- an open argument has a value under every assignment
abbrev pub Represents : (Assignment → Arg) → AbsArg → Type 0
Represents value a = (x : Assignment) → value x ≡ arg_at x a

-- the argument at a place varies, where `at` says what an argument is at an assignment
pub record ArgumentVaries {A V : Type 0} (at : Assignment → A → V) (args : List A) (place : ℕ) : Type 0 where
  pub argument : A
  pub is_there : slice_get args place ≡ Some argument
  pub varies : Varies (λ x. at x argument)

-- what is given represents the value; where the part breaks, something bends; and where an argument leaves it undecided, that one varies
abbrev pub IsOutcome : (Assignment → Arg) → List AbsArg → Type 0 → Result AbsArg Refusal → Type 0
IsOutcome value args SomethingBends (Ok a) = Represents value a
IsOutcome value args SomethingBends (Err Breaks) = SomethingBends
IsOutcome value args SomethingBends (Err (Undecided i)) = ArgumentVaries arg_at args i

-- it is the value that bends, in one of its elements
abbrev pub IsOutcomeOf : (Assignment → Arg) → List AbsArg → Result AbsArg Refusal → Type 0
IsOutcomeOf value args outcome = IsOutcome value args (SomeBends (λ x. elements_of (value x))) outcome
