-- How a search over the model of a sheet ends, and what that means of the sheet.
use Rattle.std.specs.Prelude.{◌≡◌, ◌<◌, ◌≤◌, ℕ, ℤ, Bool, List, All, length, map, Option, Some, None, slice_get, slice_index, slice_index_or, pos, ⊤}
use Rattle.std.specs.Option.{option_and_then}
use Rattle.fractions.specs.Rational.{ℚ}
use Rattle.fractions.specs.Whole.{whole_ℚ}
use Rattle.optimality.specs.Problem.{Assignment, Goal, greatest, least, reach}
use Rattle.optimality.specs.Optimal.{IsNotNegative, IsWhole, IsZeroOrOne, Optimal, Infeasible, Stand, Unbounded, objective_at}
use Rattle.cell_refs.specs.declared.cell.Cell.{Cell}
use Rattle.linear_models.specs.Model.{Model}
use Rattle.searches.specs.Answers as answers
use Rattle.searches.specs.Trails as trails
use Rattle.branch_bound.specs.Ends.{IsWideAt}
use Rattle.commands.specs.declared.answer.Answer.{Answer}
use Rattle.commands.specs.declared.answer.Answer.TheVariants as answer
use Rattle.commands.specs.declared.answer.PathStep.{PathStep}
use Rattle.recalculation.specs.Entries.{no_overriding}
use Rattle.workbook.specs.Kinds.{book_of}
use Rattle.workbook.specs.State.{State}
use Rattle.cell_refs.specs.declared.place.Place.{Place}
use Rattle.cell_refs.specs.declared.place.Place.TheVariants as place
use Rattle.solver_names.specs.Sides.{sides_in}
use Rattle.solver_names.specs.Statement.{RowOf, Statement}
use Rattle.commands.specs.FromSheetProblems.{number_in, put_over, value_at}
use Rattle.commands.specs.FromSheetProblems.{not_negative_in, problem_in}
use Rattle.write_back.specs.Writing.{with_numbers, without_room}
use Rattle.sheet_solving.specs.Searches.{EndsWith, HasOpenLeaf, HasUnits, Opened, Searched, Task, led_to, total}

-- ---- what an answer means
-- the number of a place of the workbook as it is, with no cell overridden
abbrev pub number_now : State → Statement → Place → Option ℚ
number_now book s p = option_and_then number_in (value_at (book_of book) (sides_in book s.sheet) no_overriding p)

-- both sides of a row are numbers in the workbook as it is, and they are in its relation
pub record Holds (book : State) (s : Statement) (r : RowOf) : Type 0 where
  pub left : ℚ
  pub right : ℚ
  pub left_is : number_now book s (place.Cell r.left) ≡ Some left
  pub right_is : number_now book s r.right ≡ Some right
  pub stand : Stand r.relation left right

-- the number of a decision cell in the workbook as it is passes the test
abbrev pub DecisionHas : (ℚ → Type 0) → State → Statement → ℕ → Type 0
DecisionHas P book s decision = (c : Cell) × (x : ℚ) × (slice_get s.decisions decision ≡ Some c) × (number_now book s (place.Cell c) ≡ Some x) × P x

-- it is that number
abbrev pub IsNumber : ℕ → ℚ → Type 0
IsNumber n x = x ≡ whole_ℚ (pos n)

-- the decision cells of a group hold whole numbers from 1 to as many as they are in the workbook as it is, each of these numbers, and none twice
pub record CellsHoldEachOnce (book : State) (s : Statement) (group : List ℕ) : Type 0 where
  pub within : (i : ℕ) → i < length group → (n : ℕ) × (1 ≤ n) × (n ≤ length group) × DecisionHas (IsNumber n) book s (slice_index group i)
  pub each : (n : ℕ) → 1 ≤ n → n ≤ length group → (i : ℕ) × (i < length group) × DecisionHas (IsNumber n) book s (slice_index group i)
  pub once : (i k n : ℕ) → i < length group → k < length group → DecisionHas (IsNumber n) book s (slice_index group i) → DecisionHas (IsNumber n) book s (slice_index group k) → i ≡ k

-- where a value is to be reached, the objective is that value in the workbook as it is
abbrev pub IsReached : State → Statement → Goal → Option Cell → Type 0
IsReached book s greatest objective = ⊤
IsReached book s least objective = ⊤
IsReached book s (reach v) None = ⊤
IsReached book s (reach v) (Some c) = number_now book s (place.Cell c) ≡ Some v

-- every row, every mark, all cells that are to be different and the wanted value hold in the workbook as it is
pub record MeetsAll (book : State) (s : Statement) : Type 0 where
  pub rows : All (Holds book s) s.rows
  pub whole : All (DecisionHas IsWhole book s) s.whole
  pub binary : All (DecisionHas IsZeroOrOne book s) s.binary
  pub not_negative : All (DecisionHas IsNotNegative book s) (not_negative_in s)
  pub numbered : All (CellsHoldEachOnce book s) s.different
  pub reached : IsReached book s s.goal s.objective

-- an optimal assignment was found and is written into the cells to be decided; recalculated, every cell and every right side is what
-- it was under it, and so the workbook meets every constraint and reaches a wanted value
pub record IsSolved (before after : State) (s : Statement) (numbers : Assignment) (value : Option ℚ) : Type 0 where
  pub optimal : Optimal (problem_in before s) numbers
  pub worth : objective_at (problem_in before s) numbers ≡ value
  pub room : without_room before s.decisions numbers ≡ None
  pub written : after ≡ with_numbers before s.decisions numbers
  pub recalculated : (p : Place) → value_at (book_of after) (sides_in after s.sheet) no_overriding p ≡ value_at (book_of before) (sides_in before s.sheet) (put_over s.decisions numbers) p
  pub meets : MeetsAll after s

-- an optimal assignment was found, and a cell to be decided, the first of them, has no room for its number
pub record HasNoRoom (before : State) (s : Statement) (numbers : Assignment) (cell : Cell) : Type 0 where
  pub optimal : Optimal (problem_in before s) numbers
  pub full : without_room before s.decisions numbers ≡ Some cell

abbrev pub no_cell : Cell
no_cell = record { sheet = record { 0 = 0 }; row = 0; col = 0 }

-- the path to a node by the cells whose bounds its steps set
abbrev pub by_cell : List Cell → ℕ × Bool × ℤ → PathStep
by_cell decisions step = record { cell = slice_index_or decisions step.0 no_cell; upper = step.1; bound = step.2 }

abbrev pub by_cells : List Cell → List (ℕ × Bool × ℤ) → List PathStep
by_cells decisions path = map (by_cell decisions) path

-- the search stands at a pivot that isn't narrow, and after these units another one may be spent
pub record StandsAt (task : Task) (decisions : List Cell) (units : ℕ) (s : trails.State) (path : List PathStep) (basis : List ℕ) (leaves enters : ℕ) : Type 0 where
  pub steps : List (ℕ × Bool × ℤ)
  pub wide : IsWideAt s steps basis leaves enters
  pub cells : path ≡ by_cells decisions steps
  pub left : HasUnits task units

-- ---- all ends of a search of the model, for what the sheet's names state: the workbook is as before but for what an optimum writes
abbrev pub Solves : Task → State → Statement → Model → Answer → State → Type 0
Solves task before s m (answer.Optimal value) after =
    (t : Searched task m) × (x : Assignment) × (v : ℚ) × EndsWith m t.state (answers.optimal x v) × IsSolved before after s x value
Solves task before s m answer.Infeasible after =
    (t : Searched task m) × EndsWith m t.state answers.infeasible × Infeasible (problem_in before s) × (after ≡ before)
Solves task before s m answer.Unbounded after =
    (t : Searched task m) × (x : Assignment) × (d : List ℚ) × EndsWith m t.state (answers.unbounded x d)
    × Unbounded (problem_in before s) × (after ≡ before)
Solves task before s m (answer.WidePivot path basis leaves enters) after =
    (t : Searched task m) × StandsAt task s.decisions (length t.units) t.state path.items basis.items leaves enters × (after ≡ before)
Solves task before s m (answer.Budget n) after =
    (t : Searched task m) × (n ≡ total t) × (task.budget ≤ n) × HasOpenLeaf m t.state × (after ≡ before)
Solves task before s m (answer.NoRoom cell) after =
    (t : Searched task m) × (x : Assignment) × (v : ℚ) × EndsWith m t.state (answers.optimal x v) × HasNoRoom before s x cell
    × (after ≡ before)
Solves task before s m _ after = ⊥

-- the same of a slice, after which more may be to be done: all units that are asked for are spent, the budget isn't, a leaf is open, and
-- the search stands where its units have led
abbrev pub Slices : Task → State → Statement → Model → Answer → Opened → State → Type 0
Slices task before s m (answer.More n) search after =
    (t : Searched task m) × (n ≡ total t) × (length t.units ≡ task.units) × (total t < task.budget) × HasOpenLeaf m t.state
    × (search ≡ led_to t) × (after ≡ before)
Slices task before s m end search after = Solves task before s m end after

-- it ends for another reason than that the budget is spent
abbrev pub HasBudgetLeft : Answer → Type 0
HasBudgetLeft (answer.Budget n) = ⊥
HasBudgetLeft _ = ⊤
