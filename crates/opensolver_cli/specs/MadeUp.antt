-- What a run prints of the solve of a workbook that is made up.
use Rattle.std.specs.Prelude.{◌≡◌, ◌⊎◌, ◌++◌, ◌∷◌, ℕ, Bool, true, false, List, [], codes, decimal}
use Rattle.commands.specs.Commands.{Solve}
use Rattle.commands.specs.Lines.{answer_text, is_refusal}
use Rattle.commands.specs.declared.answer.Answer.{Answer}
use Rattle.node_pick.specs.Rules.{Rule}
use Rattle.command_line.specs.Words.{default_budget}
use Rattle.made_up_books.specs.MadeUp.{made_up, sheet_name}
use Rattle.session.specs.States.{SessionState, opened}
use Rattle.session.specs.Steps.{Step}
use Rattle.opensolver_cli.specs.Outside.{NothingIsSeen, Outside, Prints, PrintsSome}
use Rattle.run_inputs.specs.declared.status.Status.{Status}
use Rattle.run_inputs.specs.declared.status.Status.TheVariants as status

-- the line of the answer to its solve
abbrev pub made_up_line : ℕ → Answer → List ℕ
made_up_line size a = codes "gen " ++ (decimal size ++ (codes " " ++ answer_text (sheet_name ∷ []) a))

abbrev pub status_by : Bool → Status
status_by true = status.Refused
status_by false = status.Done

-- a line is printed, and the status is this one; or a part of it, where its write failed; or nothing, where memory ran out
abbrev pub SaysLine : List ℕ → Status → Outside → Outside → Status → Type 0
SaysLine line said before after status.WriteFault = PrintsSome line before after
SaysLine line said before after status.Memory = NothingIsSeen before after
SaysLine line said before after ends = (ends ≡ said) × Prints line before after

-- its sheet is solved with the default budget, by a picker of this rule, and the line of the answer is said
pub record SolvesMadeUp (rule : Rule) (size : ℕ) (before after : Outside) (ends : Status) : Type 0 where
  pub answer : Answer
  pub next : SessionState
  pub step : Step rule (opened (made_up size) default_budget) (Solve sheet_name) answer next
  pub says : SaysLine (made_up_line size answer) (status_by (is_refusal (sheet_name ∷ []) answer)) before after ends

-- or memory ran out before
abbrev pub MadeUpEnds : Rule → ℕ → Outside → Outside → Status → Type 0
MadeUpEnds rule size before after ends = SolvesMadeUp rule size before after ends ⊎ ((ends ≡ status.Memory) × NothingIsSeen before after)
