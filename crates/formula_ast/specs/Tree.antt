-- Formulas as trees (OpenDocument 1.2 part 2, section 5).
use Rattle.std.specs.Prelude.{ℕ, Bool, List, [], ◌∷◌}
use Rattle.fractions.specs.Rational.{ℚ}
use Rattle.cell_refs.specs.declared.span.Span.{Span}
use Rattle.cell_refs.specs.declared.op.Op.{Op}
use Rattle.cell_refs.specs.declared.error_kind.ErrorKind.{ErrorKind}
use Rattle.cell_refs.specs.Areas.{Area}
use Rattle.formula_ast.specs.declared.func.Func.{Func}

-- the cells that a reference names: an area of a sheet, or cells of a sheet that there isn't
pub data Referred : Type 0 where
  Listed : (area : Area) → Referred
  Unlisted : (sheet : List ℕ) → Referred

mutual
  -- a part of a formula, with its place in the text
  pub data Tree : Type 0 where
    Number : (at : Span) (value : ℚ) → Tree
    -- a number whose numeral is not narrow
    WideNumber : (at : Span) (value : ℚ) → Tree
    Text : (at : Span) (text : List ℕ) → Tree
    Logical : (at : Span) (value : Bool) → Tree
    Fault : (at : Span) (kind : ErrorKind) → Tree
    Missing : (at : Span) → Tree
    Array : (at : Span) (rows columns : ℕ) (items : Trees) → Tree
    Reference : (at : Span) (areas : List Referred) → Tree
    Name : (at : Span) (name : List ℕ) → Tree
    Unknown : (at : Span) (name : List ℕ) (args : Trees) → Tree
    Call : (at : Span) (func : Func) (args : Trees) → Tree
    Plus : (at : Span) (of : Tree) → Tree
    Minus : (at : Span) (of : Tree) → Tree
    Percent : (at : Span) (of : Tree) → Tree
    Infix : (at : Span) (op : Op) (left right : Tree) → Tree

  -- parts in their order
  pub data Trees : Type 0 where
    none : Trees
    more : (first : Tree) (others : Trees) → Trees

-- a list of parts
abbrev pub trees : List Tree → Trees
trees [] = none
trees (x ∷ xs) = more x (trees xs)

-- where a part stands in the text
abbrev pub span_of : Tree → Span
span_of (Number at x) = at
span_of (WideNumber at x) = at
span_of (Text at t) = at
span_of (Logical at b) = at
span_of (Fault at k) = at
span_of (Missing at) = at
span_of (Array at rows columns items) = at
span_of (Reference at areas) = at
span_of (Name at name) = at
span_of (Unknown at name args) = at
span_of (Call at func args) = at
span_of (Plus at x) = at
span_of (Minus at x) = at
span_of (Percent at x) = at
span_of (Infix at op x y) = at
