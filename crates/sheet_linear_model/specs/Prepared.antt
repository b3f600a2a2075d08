-- The linear model of a sheet, or the first cause why it has none: a fault of its names, a needed place without a form, a side that
-- isn't a number, or a row that isn't narrow.
use Rattle.std.specs.Prelude.{◌≡◌, ℕ, List, Option, Some, None, Ok, ⊤}
use Rattle.fractions.specs.Rational.{zero_ℚ}
use Rattle.affine_forms.specs.Forms.{AffineForm, constant_form}
use Rattle.cell_refs.specs.declared.span.Span.{Span}
use Rattle.formula_ast.specs.Tree.{Tree}
use Rattle.recalculation.specs.Entries.{entry}
use Rattle.recalculation.specs.Recalculation.{val}
use Rattle.workbook.specs.Contents.{tree_of as tree_said}
use Rattle.workbook.specs.Kinds.{book_of}
use Rattle.workbook.specs.State.{State}
use Rattle.cell_refs.specs.declared.place.Place.{Place}
use Rattle.cell_refs.specs.declared.place.Place.TheVariants as place
use Rattle.form_extraction.specs.Places.{numbered_in, overriding}
use Rattle.form_extraction.specs.Refuted.{IsRefuted}
use Rattle.form_extraction.specs.declared.forms.Why.{Why}
use Rattle.form_extraction.specs.declared.forms.Why.TheVariants as why
use Rattle.linear_models.specs.Conditions.{statement_of}
use Rattle.linear_models.specs.Linear.{linear, wide_row}
use Rattle.linear_models.specs.Model.{Model}
use Rattle.linear_models.specs.Statement as rows
use Rattle.solver_names.specs.Sides.{sides_in}
use Rattle.solver_names.specs.Statement.{Statement}
use Rattle.solver_names.specs.Stated.{statement_in}
use Rattle.form_needs.specs.FromSheetProblems.{HasForms, conditions_of}
use Rattle.form_needs.specs.FromSheetProblems.{tree_of}
use Rattle.form_needs.specs.FirstRefusal.{AllNumbers, FirstRefusal}
use Rattle.form_needs.specs.Needed.{Asked, asked_of}
use Rattle.form_needs.specs.declared.refusal.FormRefusal.{FormRefusal}
use Rattle.form_needs.specs.declared.refusal.FormRefusal.TheVariants as refusal

-- ---- the model
-- what the names state, the forms of the objective and of both sides of each row, and the linear model
pub record Prepared : Type 0 where
  pub statement : Statement
  pub objective : AffineForm
  pub sides : List (AffineForm × AffineForm)
  pub model : Model

-- the names of the sheet state this, each side and the objective are numbers, and these are their forms; without an objective the
-- form is 0
pub record HaveForms (book : State) (sheet : ℕ) (s : Statement) (objective : AffineForm) (sides : List (AffineForm × AffineForm)) : Type 0 where
  pub stated : statement_in book sheet ≡ Ok s
  pub numbers : AllNumbers (asked_of book s)
  pub forms : HasForms (book_of book) (sides_in book s.sheet) s objective sides
  pub none : s.objective ≡ None → objective ≡ constant_form zero_ℚ

-- the rows that they make
abbrev pub rows_of : Statement → AffineForm → List (AffineForm × AffineForm) → rows.Statement
rows_of s objective sides = statement_of (conditions_of s) objective sides

-- each row is narrow, and this is the linear model
pub record IsPrepared (book : State) (sheet : ℕ) (p : Prepared) : Type 0 where
  pub forms : HaveForms book sheet p.statement p.objective p.sides
  pub narrow : wide_row (rows_of p.statement p.objective p.sides) ≡ None
  pub model : p.model ≡ linear (rows_of p.statement p.objective p.sides)

-- ---- causes why there is none
-- this row, the first of them, isn't narrow
pub record HasWideRow (book : State) (sheet row : ℕ) : Type 0 where
  pub statement : Statement
  pub objective : AffineForm
  pub sides : List (AffineForm × AffineForm)
  pub forms : HaveForms book sheet statement objective sides
  pub wide : wide_row (rows_of statement objective sides) ≡ Some row

-- the tree of a formula cell, or of a side
abbrev pub tree_at : Asked → Place → Option Tree
tree_at q (place.Cell a) = tree_said (entry q.book a)
tree_at q (place.Side k) = tree_of q.sides k

-- the part that isn't affine bends, and the one that is undecided varies, as recalculation has it under every assignment
abbrev pub IsRefutedAt : Asked → Place → Span → Why → Type 0
IsRefutedAt q p at cause = (t : Tree) × (tree_at q p ≡ Some t) × IsRefuted (λ x. val q.book (overriding (numbered_in q.decisions) x)) t at cause

abbrev pub IsRight : Asked → FormRefusal → Type 0
IsRight q (refusal.NotAffine p at) = IsRefutedAt q p at why.Break
IsRight q (refusal.Undecided p at) = IsRefutedAt q p at why.Undecided
IsRight q _ = ⊤

-- the names state this, and the refusal is the first over what it needs, and right
pub record IsRefusedBy (book : State) (sheet : ℕ) (r : FormRefusal) : Type 0 where
  pub statement : Statement
  pub stated : statement_in book sheet ≡ Ok statement
  pub first : FirstRefusal (asked_of book statement) r
  pub right : IsRight (asked_of book statement) r
