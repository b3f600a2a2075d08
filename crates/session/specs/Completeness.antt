-- When a solve surely has an answer: the sheet has a model, the stated units are within the budget, no next pivot is wide, and there is room
-- for the values.
use Rattle.std.specs.Prelude.{◌≡◌, ◌≤◌, ℕ, List, Some, None, ⊤}
use Rattle.cell_refs.specs.Names.{place_in}
use Rattle.fractions.specs.Rational.{ℚ}
use Rattle.optimality.specs.Problem.{Assignment}
use Rattle.dictionaries.specs.Bland.{NextPivot}
use Rattle.dictionaries.specs.Narrow.{IsNarrowPivot}
use Rattle.linear_models.specs.Model.{Model}
use Rattle.node_pick.specs.Rules.{Rule}
use Rattle.searches.specs.Answers as answers
use Rattle.searches.specs.Trails.{SearchUnit, State, Trail, Work}
use Rattle.search_bounds.specs.Choices.{IsBounded}
use Rattle.search_bounds.specs.Enough.{enough_for}
use Rattle.sheet_linear_model.specs.Prepared.{IsPrepared, Prepared}
use Rattle.kept_book.specs.FromSheetSolving.{EndsWith}
use Rattle.kept_book.specs.FromWriteBack.{without_room}
use Rattle.commands.specs.declared.answer.Answer.{Answer}
use Rattle.commands.specs.declared.answer.Answer.TheVariants as answer
use Rattle.commands.specs.Commands.{Spoken, Solve}
use Rattle.session.specs.States.{SessionState}

-- each next pivot of a trail by the rule is narrow
abbrev pub PivotsAreNarrow : Model → Rule → Type 0
PivotsAreNarrow m rule =
    (us : List SearchUnit) (s : State) (w : Work) (row column : ℕ) → Trail m rule us s → s.work ≡ Some w → NextPivot w.dictionary row column
    → IsNarrowPivot w.dictionary row column

-- the names have no fault, each needed place has a form, each side and the objective is a number under every assignment, and each row is
-- narrow: so there is a model; each decision of it that is to be whole has two bounds, the units that are stated to be enough for it are
-- within the budget, its pivots are narrow, and each optimal assignment to which they lead has room in the cells to be decided
pub record CanBeSolved (rule : Rule) (s : SessionState) (sheet : ℕ) : Type 0 where
  pub prepared : Prepared
  pub is_prepared : IsPrepared s.book sheet prepared
  pub bounded : IsBounded prepared.model
  pub budget : enough_for prepared.model ≤ s.budget
  pub narrow : PivotsAreNarrow prepared.model rule
  pub room : (us : List SearchUnit) (t : State) (x : Assignment) (v : ℚ) → Trail prepared.model rule us t → EndsWith prepared.model t (answers.optimal x v)
      → without_room s.book prepared.statement.decisions x ≡ None

-- optimal, infeasible or unbounded
abbrev pub IsSettled : Answer → Type 0
IsSettled (answer.Optimal value) = ⊤
IsSettled answer.Infeasible = ⊤
IsSettled answer.Unbounded = ⊤
IsSettled _ = ⊥

-- a solve of such a sheet is answered so
abbrev pub IsComplete : Rule → SessionState → Spoken → Answer → Type 0
IsComplete rule before (Solve name) a = (sheet : ℕ) → place_in before.book.sheets name ≡ Some sheet → CanBeSolved rule before sheet → IsSettled a
IsComplete rule before command a = ⊤
