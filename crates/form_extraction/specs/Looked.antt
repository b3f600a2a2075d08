-- What the cells of a workbook look at over some decision cells, and sides, which are expressions of their own.
use Rattle.std.specs.Prelude.{◌≡◌, ◌≢◌, Bool, true, false, ◌&&◌, if◌then◌else◌, Option, Some, None, is_some, Contains}
use Rattle.std.specs.List.{list_any}
use Rattle.std.specs.FinMap.{keys, contains_key}
use Rattle.std.specs.declared.cmp.Ordering.TheVariants.{Greater}
use Rattle.calculations.specs.Calculation.{exact}
use Rattle.cell_refs.specs.Cells.{cell_cmp}
use Rattle.cell_refs.specs.declared.cell.Cell.{Cell}
use Rattle.cell_refs.specs.declared.error_kind.ErrorKind.TheVariants as kind
use Rattle.cell_refs.specs.declared.span.Span.{Span}
use Rattle.formula_ast.specs.Tree.{Tree}
use Rattle.sheet_model.specs.declared.value.Value.{Value}
use Rattle.sheet_model.specs.declared.value.Value.TheVariants.{Error}
use Rattle.recalculation.specs.Entries.{Book, Entry, Formula, Overriding, entry}
use Rattle.recalculation.specs.Evaluation.{evaluated, cell_value}
use Rattle.recalculation.specs.Recalculation.{val}
use Rattle.recalculation.specs.Walks.{is_circular, refers}
use Rattle.affine_forms.specs.Forms.{Assignment}
use Rattle.form_values.specs.Meaning.{abs_at}
use Rattle.form_values.specs.declared.abs.Abs.{Abs}
use Rattle.cell_refs.specs.declared.place.Place.{Place}
use Rattle.cell_refs.specs.declared.place.Place.TheVariants as place
use Rattle.form_extraction.specs.declared.forms.CellForm.{CellForm}
use Rattle.form_extraction.specs.declared.forms.CellForm.TheVariants.{Form, Refused, Blocked, Circular}
use Rattle.form_extraction.specs.declared.forms.Why.{Why}
use Rattle.form_extraction.specs.Formulas.{part_of}
use Rattle.form_extraction.specs.Places.{form_in, Decisions, overriding, form_of, formula_form}
use Rattle.form_extraction.specs.Refuted.{IsRefuted}

-- the forms of the cells that have one
abbrev pub forms_of : Book → Decisions → Cell → Option Abs
forms_of book decisions a = form_in (form_of book decisions a)

-- ---- what is looked at
abbrev pub Among : (Cell → Option Abs) → Option Entry → Cell → Type 0
Among forms (Some (Formula t)) b = Contains (part_of forms t).looks b
Among forms e b = ⊥

-- what a cell says looks at what its formula looks at, and where it is circular at all to which it refers
abbrev pub LooksFrom : Bool → (Cell → Option Abs) → Option Entry → Cell → Type 0
LooksFrom true forms e b = refers e b ≡ true
LooksFrom false forms e b = Among forms e b

-- whether a cell, which isn't to be decided, looks at the cell b, which has a text and isn't either
abbrev pub LooksAt : Book → Decisions → Cell → Cell → Type 0
LooksAt book decisions a b =
    (decisions a ≡ None) × (decisions b ≡ None) × (contains_key book.texts b ≡ true)
    × LooksFrom (is_circular book (λ c. is_some (decisions c)) a) (forms_of book decisions) (entry book a) b

-- what is looked at is referred to
abbrev pub LookedIsReferred : Type 0
LookedIsReferred = (book : Book) (decisions : Decisions) (a b : Cell) → LooksAt book decisions a b → refers (entry book a) b ≡ true

-- ---- cells that are blocked
-- b is the least cell without a form at which a looks
pub record IsLeastWithout (book : Book) (decisions : Decisions) (a b : Cell) : Type 0 where
  pub looked : LooksAt book decisions a b
  pub without : forms_of book decisions b ≡ None
  pub least : (c : Cell) → LooksAt book decisions a c → forms_of book decisions c ≡ None → cell_cmp b c ≢ Greater

abbrev pub BlockedByLeast : Type 0
BlockedByLeast =
    (book : Book) (decisions : Decisions) (a : Cell) (p : Place) → form_of book decisions a ≡ Blocked p → (b : Cell) × (p ≡ place.Cell b) × IsLeastWithout book decisions a b

-- ---- sides
-- whether an expression refers to a circular cell
abbrev pub refers_to_circle : Book → (Cell → Bool) → Tree → Bool
refers_to_circle book is_leaf t = list_any (λ b. refers (Some (Formula t)) b && is_circular book is_leaf b) (keys book.texts)

-- the form of a side, and its value
abbrev pub side_form : Book → Decisions → Tree → CellForm
side_form book decisions t = if refers_to_circle book (λ b. is_some (decisions b)) t then Circular else formula_form (forms_of book decisions) t

abbrev pub side_value : Book → Overriding → Tree → Value
side_value book over t = if refers_to_circle book (λ b. is_some (over b)) t then Error kind.Circular else cell_value (exact (evaluated (val book over) t))

abbrev pub SideIsTheValue : Type 0
SideIsTheValue =
    (book : Book) (decisions : Decisions) (t : Tree) (f : Abs) → side_form book decisions t ≡ Form f → (x : Assignment) → side_value book (overriding decisions x) t ≡ abs_at x f

abbrev pub SideRefusalsAreRight : Type 0
SideRefusalsAreRight =
    (book : Book) (decisions : Decisions) (t : Tree) (at : Span) (cause : Why) → side_form book decisions t ≡ Refused at cause
    → IsRefuted (λ x. val book (overriding decisions x)) t at cause

-- a side that refers to a circular cell is circular, and one that refers to none is what its text makes of the forms of cells
abbrev pub SideOfCircle : Type 0
SideOfCircle =
    (book : Book) (decisions : Decisions) (t : Tree) (b : Cell) → contains_key book.texts b ≡ true → refers (Some (Formula t)) b ≡ true
    → is_circular book (λ c. is_some (decisions c)) b ≡ true → side_form book decisions t ≡ Circular

abbrev pub SideOfNoCircle : Type 0
SideOfNoCircle =
    (book : Book) (decisions : Decisions) (t : Tree) → ((b : Cell) → refers (Some (Formula t)) b ≡ true → is_circular book (λ c. is_some (decisions c)) b ≡ false)
    → side_form book decisions t ≡ formula_form (forms_of book decisions) t
