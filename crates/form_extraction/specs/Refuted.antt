-- When the refusal of a formula is right: the part at its place bends or varies, as recalculation has it under every assignment.
use Rattle.std.specs.Prelude.{◌≡◌, ◌<◌, ℕ, List, map, take, Some, ⊤}
use Rattle.fractions.specs.Rational.{◌*ℚ◌}
use Rattle.calculations.specs.Calculation.{exact}
use Rattle.cell_refs.specs.declared.cell.Cell.{Cell}
use Rattle.cell_refs.specs.declared.span.Span.{Span}
use Rattle.cell_refs.specs.declared.op.Op.{Op}
use Rattle.formula_ast.specs.Tree.{Tree, Trees, none, more, span_of}
use Rattle.formula_ast.specs.Tree as tree
use Rattle.formula_ast.specs.declared.func.Func.{Func}
use Rattle.formula_ast.specs.declared.func.Func.TheVariants as func
use Rattle.sheet_model.specs.declared.value.Value.{Value}
use Rattle.sheet_model.specs.declared.value.Value.TheVariants.{Number}
use Rattle.sheet_model.specs.declared.grid.Arg.{Arg}
use Rattle.sheet_funcs.specs.Arguments.{at, elements_of, grid_of}
use Rattle.sheet_funcs.specs.Products.{factor, factors_at, product_of}
use Rattle.recalculation.specs.Entries.{Book, Formula, entry}
use Rattle.recalculation.specs.Evaluation.{evaluated, all_evaluated}
use Rattle.recalculation.specs.Recalculation.{val}
use Rattle.affine_forms.specs.Forms.{Assignment}
use Rattle.form_values.specs.Refusals.{Bends, SomeBends, Varies}
use Rattle.form_extraction.specs.declared.forms.CellForm.TheVariants.{Refused}
use Rattle.form_extraction.specs.declared.forms.Why.{Why}
use Rattle.form_extraction.specs.declared.forms.Why.TheVariants as why
use Rattle.form_extraction.specs.Places.{Decisions, overriding, form_of}

-- a tree is a part of another
mutual
  pub data IsPart (t : Tree) : Tree → Type 0 where
    itself : IsPart t t
    in_plus : (s : Span) (x : Tree) → IsPart t x → IsPart t (tree.Plus s x)
    in_minus : (s : Span) (x : Tree) → IsPart t x → IsPart t (tree.Minus s x)
    in_percent : (s : Span) (x : Tree) → IsPart t x → IsPart t (tree.Percent s x)
    in_left : (s : Span) (o : Op) (x y : Tree) → IsPart t x → IsPart t (tree.Infix s o x y)
    in_right : (s : Span) (o : Op) (x y : Tree) → IsPart t y → IsPart t (tree.Infix s o x y)
    in_call : (s : Span) (f : Func) (ts : Trees) → IsAmong t ts → IsPart t (tree.Call s f ts)

  pub data IsAmong (t : Tree) : Trees → Type 0 where
    first : (x : Tree) (ts : Trees) → IsPart t x → IsAmong t (more x ts)
    later : (x : Tree) (ts : Trees) → IsAmong t ts → IsAmong t (more x ts)

-- ---- a part bends
-- of some grids, the product of some of the first factors in one place
pub record ProductBends (args : Assignment → List Arg) : Type 0 where
  pub place : ℕ
  pub count : ℕ
  pub bent : Bends (λ x. Number (exact (product_of (take count (factors_at (map grid_of (args x)) place)))))

-- of two grids, the product of an element in a row of the first and the one for it in a column of the second
pub record MatrixBends (one other : Assignment → Arg) : Type 0 where
  pub row : ℕ
  pub column : ℕ
  pub inner : ℕ
  pub is_row : (x : Assignment) → row < (grid_of (one x)).rows
  pub is_column : (x : Assignment) → column < (grid_of (other x)).columns
  pub is_inner : (x : Assignment) → inner < (grid_of (one x)).columns
  pub bent : Bends (λ x. Number (factor (at (grid_of (one x)) row inner) *ℚ factor (at (grid_of (other x)) inner column)))

-- an element of its value does, and of SUMPRODUCT and MMULT a product
abbrev pub PartBends : (Assignment → Cell → Value) → Tree → Type 0
PartBends values (tree.Call s func.SumProduct ts) = ProductBends (λ x. map exact (all_evaluated (values x) ts))
PartBends values (tree.Call s func.MMult (more t (more u none))) = MatrixBends (λ x. exact (evaluated (values x) t)) (λ x. exact (evaluated (values x) u))
PartBends values t = SomeBends (λ x. elements_of (exact (evaluated (values x) t)))

-- ---- a refusal
abbrev pub IsSo : (Assignment → Cell → Value) → Why → Tree → Type 0
IsSo values why.Break t = PartBends values t
IsSo values why.Undecided t = Varies (λ x. exact (evaluated (values x) t))
IsSo values why.Wide t = ⊤

-- the part at the place in the text, where `values` are those of all cells under an assignment
pub record IsRefuted (values : Assignment → Cell → Value) (formula : Tree) (at : Span) (cause : Why) : Type 0 where
  pub part : Tree
  pub is_part : IsPart part formula
  pub is_there : span_of part ≡ at
  pub is_so : IsSo values cause part

-- a refused cell has a formula, and the refusal is right
pub record HasRefuted (book : Book) (decisions : Decisions) (a : Cell) (at : Span) (cause : Why) : Type 0 where
  pub formula : Tree
  pub is_formula : entry book a ≡ Some (Formula formula)
  pub refuted : IsRefuted (λ x. val book (overriding decisions x)) formula at cause

abbrev pub RefusalsAreRight : Type 0
RefusalsAreRight =
    (book : Book) (decisions : Decisions) (a : Cell) (at : Span) (cause : Why) → form_of book decisions a ≡ Refused at cause → HasRefuted book decisions a at cause
