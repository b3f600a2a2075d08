-- What holds of every statement that the names of a sheet make.
use Rattle.std.specs.Prelude.{◌≡◌, ◌<◌, ℕ, List, length, map, All, Some, IsSome, Ok, Err, slice_get}
use Rattle.cell_refs.specs.declared.cell.Cell.{Cell}
use Rattle.formula_ast.specs.Tree.{Tree}
use Rattle.cell_refs.specs.Listed.{IsListed}
use Rattle.workbook.specs.State.{State}
use Rattle.cell_refs.specs.declared.place.Place.{Place}
use Rattle.cell_refs.specs.declared.place.Place.TheVariants as place
use Rattle.solver_names.specs.Answers.{Answers}
use Rattle.solver_names.specs.Read.{read_in}
use Rattle.solver_names.specs.Sides.{sides_in}
use Rattle.solver_names.specs.Statement.{RowOf, Statement}
use Rattle.solver_names.specs.Stated.{different_cells, statement_in}
use Rattle.solver_names.specs.declared.fault.NamesFault.TheVariants as told
use Rattle.sheet_problems.specs.Places.{Sides, tree_of}

-- no cell stands twice
abbrev pub AreDistinct : List Cell → Type 0
AreDistinct cells = (i j : ℕ) (c : Cell) → slice_get cells i ≡ Some c → slice_get cells j ≡ Some c → i ≡ j

-- no number stands twice
abbrev pub StandOnce : List ℕ → Type 0
StandOnce numbers = (i j k : ℕ) → slice_get numbers i ≡ Some k → slice_get numbers j ≡ Some k → i ≡ j

-- no two sides have one number
abbrev pub HaveOwnNumbers : Sides → Type 0
HaveOwnNumbers sides = (i j : ℕ) (s t : ℕ × Tree) → slice_get sides i ≡ Some s → slice_get sides j ≡ Some t → s.0 ≡ t.0 → i ≡ j

-- a cell on one of the sheets, or one of the sides
abbrev pub IsThere : List (List ℕ) → Sides → Place → Type 0
IsThere sheets sides (place.Cell c) = IsListed sheets c
IsThere sheets sides (place.Side k) = IsSome (tree_of sides k)

-- the cells of a row lie on the sheets, and its right side is there
pub record RowIsThere (sheets : List (List ℕ)) (sides : Sides) (r : RowOf) : Type 0 where
  pub left : IsListed sheets r.left
  pub right : IsThere sheets sides r.right

-- what a statement names is there, each cell to be decided once, and each side has its own number; the cells that are to be
-- different are to be decided, and none is to be different from itself
pub record IsWhole (book : State) (s : Statement) : Type 0 where
  pub distinct : AreDistinct s.decisions
  pub decisions : All (IsListed book.sheets) s.decisions
  pub objective : (c : Cell) → s.objective ≡ Some c → IsListed book.sheets c
  pub rows : All (RowIsThere book.sheets (sides_in book s.sheet)) s.rows
  pub numbers : HaveOwnNumbers (sides_in book s.sheet)
  pub members : All (All (λ j. j < length s.decisions)) s.different
  pub once : All StandOnce s.different

-- so is every statement of a sheet
abbrev pub StatementsAreWhole : Type 0
StatementsAreWhole = (book : State) (sheet : ℕ) (s : Statement) → sheet < length book.sheets → statement_in book sheet ≡ Ok s → IsWhole book s

-- the cells that are to be different are those on the left of the constraints that ask for it, in their order
abbrev pub GroupsAreLeftSides : Type 0
GroupsAreLeftSides = (book : State) (sheet : ℕ) (s : Statement) → statement_in book sheet ≡ Ok s
    → map (map (slice_get s.decisions)) s.different ≡ map (map Some) (different_cells (read_in book sheet).constraints)

-- and the cell of a fault that is told lies on the sheets
abbrev pub FaultsAreListed : Type 0
FaultsAreListed = (book : State) (sheet k : ℕ) (c : Cell) → sheet < length book.sheets → Answers book sheet (Err (told.NotDecision k c)) → IsListed book.sheets c
