-- The forms of cells are their values under every assignment, and depend on what the cells look at alone.
use Rattle.std.specs.Prelude.{◌≡◌, ℕ, true, Option, Some, None, is_some, Contains}
use Rattle.cell_refs.specs.declared.cell.Cell.{Cell}
use Rattle.formula_ast.specs.Tree.{Tree}
use Rattle.sheet_model.specs.declared.value.Value.{Value}
use Rattle.sheet_model.specs.declared.value.Value.TheVariants.{Number, Logical}
use Rattle.recalculation.specs.Entries.{Book, entry}
use Rattle.recalculation.specs.Entries as entries
use Rattle.recalculation.specs.Recalculation.{val}
use Rattle.recalculation.specs.Walks.{is_circular}
use Rattle.affine_forms.specs.Forms.{Assignment, worth}
use Rattle.affine_forms.specs.declared.rel.Rel.{Rel}
use Rattle.form_values.specs.Entries.{open_decision}
use Rattle.form_values.specs.Meaning.{abs_at}
use Rattle.affine_forms.specs.Relations.{holds}
use Rattle.form_values.specs.declared.open_form.Open.{Open}
use Rattle.form_values.specs.declared.abs.Abs.{Abs}
use Rattle.form_values.specs.declared.abs.Abs.TheVariants.{Known, Affine, Test}
use Rattle.form_extraction.specs.declared.forms.CellForm.TheVariants.{Form, Circular}
use Rattle.form_extraction.specs.declared.forms.CellForm.TheVariants as result
use Rattle.form_extraction.specs.Formulas.{part_of}
use Rattle.form_extraction.specs.Places.{Decisions, overriding, form_of, form_over, formula_form}

-- ---- under every assignment of numbers to the decision cells
-- the form of a cell has the value of the cell
abbrev pub FormIsTheValue : Type 0
FormIsTheValue =
    (book : Book) (decisions : Decisions) (a : Cell) (f : Abs) → form_of book decisions a ≡ Form f → (x : Assignment) → val book (overriding decisions x) a ≡ abs_at x f

-- a known cell has its value
abbrev pub KnownIsTheValue : Type 0
KnownIsTheValue =
    (book : Book) (decisions : Decisions) (a : Cell) (v : Value) → form_of book decisions a ≡ Form (Known v) → (x : Assignment) → val book (overriding decisions x) a ≡ v

-- an affine one the number that its form is worth
abbrev pub AffineIsTheNumber : Type 0
AffineIsTheNumber =
    (book : Book) (decisions : Decisions) (a : Cell) (o : Open) → form_of book decisions a ≡ Form (Affine o) → (x : Assignment)
    → val book (overriding decisions x) a ≡ Number (worth x o.form)

-- and a test is TRUE exactly where its form is in its relation to 0, and else FALSE
abbrev pub TestIsTrueWhereItHolds : Type 0
TestIsTrueWhereItHolds =
    (book : Book) (decisions : Decisions) (a : Cell) (o : Open) (r : Rel) → form_of book decisions a ≡ Form (Test o r) → (x : Assignment)
    → val book (overriding decisions x) a ≡ Logical (holds r (worth x o.form))

-- ---- layers
-- the form of a cell is what its text makes of the forms of the others
abbrev pub FormEquation : Type 0
FormEquation = (book : Book) (decisions : Decisions) (a : Cell) → form_of book decisions a ≡ form_over book decisions (form_of book decisions) a

-- the form of a formula, and the cells at which it looks, depend on the forms of these cells alone
abbrev pub DependsOnLooked : Type 0
DependsOnLooked =
    (forms others : Cell → Option Abs) (t : Tree) → ((b : Cell) → Contains (part_of forms t).looks b → forms b ≡ others b)
    → (formula_form forms t ≡ formula_form others t) × ((part_of forms t).looks ≡ (part_of others t).looks)

-- ---- cells that need no formula
-- a decision cell is its number, whatever its text says
abbrev pub DecisionIsItself : Type 0
DecisionIsItself = (book : Book) (decisions : Decisions) (a : Cell) (j : ℕ) → decisions a ≡ Some j → form_of book decisions a ≡ Form (Affine (open_decision j))

-- a cell at which a walk without end starts that passes no decision cell is circular
abbrev pub CircleIsCircular : Type 0
CircleIsCircular = (book : Book) (decisions : Decisions) (a : Cell) → is_circular book (λ b. is_some (decisions b)) a ≡ true → form_of book decisions a ≡ Circular

-- and no other cell is
abbrev pub CircularWhereCircle : Type 0
CircularWhereCircle = (book : Book) (decisions : Decisions) (a : Cell) → form_of book decisions a ≡ Circular → is_circular book (λ b. is_some (decisions b)) a ≡ true

-- a cell that says nothing that is allowed is malformed, where it isn't to be decided
abbrev pub MalformedIsMalformed : Type 0
MalformedIsMalformed =
    (book : Book) (decisions : Decisions) (a : Cell) → decisions a ≡ None → entry book a ≡ Some entries.Malformed → form_of book decisions a ≡ result.Malformed
