-- What is true of every step of a session whose rule names a node.
use Rattle.std.specs.Prelude.{◌≡◌, ◌≢◌, ℕ, List, [], ◌∷◌, Some}
use Rattle.std.specs.List.{AllZip}
use Rattle.branch_bound.specs.Searches.{HasTrail}
use Rattle.node_pick.specs.Rules.{Rule, free}
use Rattle.workbook.specs.State.{State}
use Rattle.commands.specs.declared.answer.Answer.{Answer}
use Rattle.commands.specs.Commands.{Spoken}
use Rattle.session.specs.FromSheetSolving.{Opened}
use Rattle.session.specs.Interrupted.{IsInterrupted}
use Rattle.session.specs.States.{SessionState, open_search, opened}
use Rattle.session.specs.Steps.{Step}
use Rattle.session_laws.specs.Answers.{SameAnswer}

-- each open search stands where a trail of its model has led
abbrev pub SearchesHaveTrails : SessionState → Type 0
SearchesHaveTrails s = (sheet : ℕ) (search : Opened) → open_search s sheet ≡ Some search → HasTrail search.model search.units search.state

-- where the rule names a node, a command has one answer and one session after it
abbrev pub StepIsDetermined : Type 0
StepIsDetermined = (rule : Rule) (before m n : SessionState) (command : Spoken) (a b : Answer) → rule ≢ free → SearchesHaveTrails before
    → Step rule before command a m → Step rule before command b n → SameAnswer a b × (m ≡ n)

-- searches have trails in a session over a workbook that was opened, and after every command, whatever rule it goes by and whether it is
-- answered or memory runs out
pub record TrailsAreKept : Type 0 where
  pub opened : (book : State) (budget : ℕ) → SearchesHaveTrails (opened book budget)
  pub steps : (rule : Rule) (before after : SessionState) (command : Spoken) (a : Answer) → SearchesHaveTrails before → Step rule before command a after → SearchesHaveTrails after
  pub interrupted : (rule : Rule) (before after : SessionState) (command : Spoken) → SearchesHaveTrails before → IsInterrupted rule before command after → SearchesHaveTrails after

-- the answers to some commands in order, each by this rule, and the session behind them
pub data StepsBy (rule : Rule) : SessionState → List Spoken → List Answer → SessionState → Type 0 where
  none : {s : SessionState} → StepsBy rule s [] [] s
  more : {s m e : SessionState} {command : Spoken} {commands : List Spoken} {a : Answer} {rest : List Answer}
      → Step rule s command a m → StepsBy rule m commands rest e → StepsBy rule s (command ∷ commands) (a ∷ rest) e

-- so the same commands over the same workbook have the same answers, and lead to one session
abbrev pub CommandsAreDetermined : Type 0
CommandsAreDetermined = (rule : Rule) (book : State) (budget : ℕ) (m n : SessionState) (commands : List Spoken) (answers others : List Answer) → rule ≢ free
    → StepsBy rule (opened book budget) commands answers m → StepsBy rule (opened book budget) commands others n → AllZip SameAnswer answers others × (m ≡ n)
