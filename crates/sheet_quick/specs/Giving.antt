-- What is answered where a parameter of an open quick model is given a value.
use Rattle.std.specs.Prelude.{◌≡◌, ◌⊎◌, ℕ, nat_lt, if◌then◌else◌, List, [], ◌∷◌, length, Option, Some, None, Result, Ok, Err, slice_set, ⊤}
use Rattle.fractions.specs.Rational.{ℚ}
use Rattle.optimality.specs.Problem.{Assignment}
use Rattle.optimality.specs.Optimal.{Optimal, objective_at}
use Rattle.cell_refs.specs.declared.cell.Cell.{Cell}
use Rattle.cell_refs.specs.declared.limits.TheConstants.{TEXT_BYTES}
use Rattle.recalculation.specs.Entries.{no_overriding}
use Rattle.sheet_funcs.specs.Numerals.{number_spelled}
use Rattle.affine_forms.specs.Assigned.{assigned}
use Rattle.linear_models.specs.Linear.{wide_row}
use Rattle.searches.specs.Answers as answers
use Rattle.workbook.specs.Edits.{after_set}
use Rattle.workbook.specs.Kinds.{book_of}
use Rattle.workbook.specs.State.{State}
use Rattle.cell_refs.specs.declared.place.Place.{Place}
use Rattle.form_extraction.specs.Places.{numbered_in}
use Rattle.solver_names.specs.Sides.{sides_in}
use Rattle.solver_names.specs.Statement.{Statement}
use Rattle.form_needs.specs.FromSheetProblems.{put_over, value_at}
use Rattle.form_needs.specs.FromSheetProblems.{problem_in}
use Rattle.commands.specs.declared.answer.Answer.{Answer}
use Rattle.commands.specs.declared.answer.Answer.TheVariants as answer
use Rattle.write_back.specs.Writing.{with_numbers, without_room}
use Rattle.sheet_finding.specs.FromSheetSolving.{EndsWith, Searched, Task}
use Rattle.sheet_finding.specs.FromSheetSolving.{MeetsAll, Solves}
use Rattle.quick_solve.specs.Quick.{stated_at, wide_set_at}
use Rattle.sheet_quick.specs.Opened.{SheetQuick, model_now}
use Rattle.sheet_quick.specs.declared.stops.NoGiven.{NoGiven}
use Rattle.sheet_quick.specs.declared.stops.NoGiven.TheVariants as stop

-- the number of a numeral that a cell can hold; none where the text is no numeral, or its number isn't narrow
abbrev pub number_given : List ℕ → Option ℚ
number_given [] = None
number_given (b ∷ text) = if nat_lt TEXT_BYTES (length (b ∷ text)) then None else number_spelled (b ∷ text)

-- the quick model with a value for one of its parameters
abbrev pub with_value : SheetQuick → ℕ → ℚ → SheetQuick
with_value q k x = record { statement = q.statement; parameters = q.parameters; values = slice_set q.values k x; model = q.model }

-- the cell is the parameter of this number, and the text says this number
pub record IsGivenTo (q : SheetQuick) (cell : Cell) (text : List ℕ) (k : ℕ) (x : ℚ) : Type 0 where
  pub parameter : numbered_in q.parameters cell ≡ Some k
  pub number : number_given text ≡ Some x

-- no number that isn't narrow is met where its values are put in, and none in the difference of a row's sides
pub record IsNarrowWith (q : SheetQuick) : Type 0 where
  pub set : wide_set_at q.model (assigned q.values) ≡ None
  pub rows : wide_row (stated_at q.model (assigned q.values)) ≡ None

-- an optimal assignment of the sheet in which the parameter has the text was found; it is written into the decision cells, and then the text into
-- the parameter. Recalculated, every cell and every right side is what it was under it
pub record IsGivenOptimum (before mid after : State) (s : Statement) (cell : Cell) (text : List ℕ) (numbers : Assignment) (value : Option ℚ) : Type 0 where
  pub optimal : Optimal (problem_in mid s) numbers
  pub worth : objective_at (problem_in mid s) numbers ≡ value
  pub room : without_room before s.decisions numbers ≡ None
  pub written : after ≡ after_set (with_numbers before s.decisions numbers) cell text
  pub same : after ≡ with_numbers mid s.decisions numbers
  pub recalculated : (p : Place) → value_at (book_of after) (sides_in after s.sheet) no_overriding p ≡ value_at (book_of mid) (sides_in mid s.sheet) (put_over s.decisions numbers) p
  pub meets : MeetsAll after s

-- an optimal assignment of that sheet was found, and a decision cell, the first of them, has no room for its number
pub record HasNoRoomFor (before mid : State) (s : Statement) (numbers : Assignment) (cell : Cell) : Type 0 where
  pub optimal : Optimal (problem_in mid s) numbers
  pub full : without_room before s.decisions numbers ≡ Some cell

-- all ends of the search of the model, where `mid` is the workbook in which the parameter has the text: after infeasible and unbounded the parameter
-- has it; after a refusal nothing has changed
abbrev pub GivesIn : Task → State → State → SheetQuick → SheetQuick → Cell → List ℕ → Answer → State → SheetQuick → Type 0
GivesIn task before mid q given cell text (answer.Optimal value) after now =
    (t : Searched task (model_now given)) × (x : Assignment) × (v : ℚ) × EndsWith (model_now given) t.state (answers.optimal x v)
    × IsGivenOptimum before mid after q.statement cell text x value × (now ≡ given)
GivesIn task before mid q given cell text answer.Infeasible after now =
    Solves task mid q.statement (model_now given) answer.Infeasible after × (now ≡ given)
GivesIn task before mid q given cell text answer.Unbounded after now =
    Solves task mid q.statement (model_now given) answer.Unbounded after × (now ≡ given)
GivesIn task before mid q given cell text (answer.NoRoom c) after now =
    (t : Searched task (model_now given)) × (x : Assignment) × (v : ℚ) × EndsWith (model_now given) t.state (answers.optimal x v)
    × HasNoRoomFor before mid q.statement x c × (after ≡ before) × (now ≡ q)
GivesIn task before mid q given cell text told after now =
    Solves task mid q.statement (model_now given) told mid × (after ≡ before) × (now ≡ q)

abbrev pub Gives : Task → State → SheetQuick → Cell → List ℕ → Result Answer NoGiven → State → SheetQuick → Type 0
Gives task before q cell text (Ok told) after now =
    (k : ℕ) × (x : ℚ) × IsGivenTo q cell text k x × IsNarrowWith (with_value q k x)
    × GivesIn task before (after_set before cell text) q (with_value q k x) cell text told after now
Gives task before q cell text (Err stop.NotParameter) after now = (numbered_in q.parameters cell ≡ None) × (after ≡ before) × (now ≡ q)
Gives task before q cell text (Err stop.BadNumeral) after now =
    (k : ℕ) × (numbered_in q.parameters cell ≡ Some k) × (number_given text ≡ None) × (after ≡ before) × (now ≡ q)
Gives task before q cell text (Err (stop.WideSet n)) after now =
    (k : ℕ) × (x : ℚ) × IsGivenTo q cell text k x × (wide_set_at q.model (assigned (slice_set q.values k x)) ≡ Some n)
    × (after ≡ before) × (now ≡ q)
Gives task before q cell text (Err (stop.WideRow n)) after now =
    (k : ℕ) × (x : ℚ) × IsGivenTo q cell text k x × (wide_set_at q.model (assigned (slice_set q.values k x)) ≡ None)
    × (wide_row (stated_at q.model (assigned (slice_set q.values k x))) ≡ Some n) × (after ≡ before) × (now ≡ q)
Gives task before q cell text (Err stop.Memory) after now = ⊤

-- with want of memory nothing has changed, or the decision cells alone are written
abbrev pub IsCutShort : State → SheetQuick → State → SheetQuick → Type 0
IsCutShort before q after now =
    (now ≡ q) × ((after ≡ before) ⊎ ((numbers : Assignment) × (after ≡ with_numbers before q.statement.decisions numbers)))
