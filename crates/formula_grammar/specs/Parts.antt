-- Signs, levels, and what a part says that is made of others.
use Rattle.std.specs.Prelude.{ℕ, Bool, true, false, List, Option, Some, None}
use Rattle.cell_refs.specs.declared.span.Span.{Span}
use Rattle.cell_refs.specs.declared.op.Op.{Op}
use Rattle.cell_refs.specs.declared.op.Op.TheVariants as op
use Rattle.formula_ast.specs.declared.func.Func.{Func}
use Rattle.formula_ast.specs.Functions.{func_in}
use Rattle.formula_ast.specs.Tree.{Tree, Call, Unknown, Plus, Minus, Percent, Infix, span_of, trees}
use Rattle.formula_grammar.specs.Symbols.{Setting, bytes_of, from_to}
use Rattle.formula_grammar.specs.declared.symbol.Sign.{Sign}
use Rattle.formula_grammar.specs.declared.symbol.Sign.TheVariants as sign
use Rattle.formula_grammar.specs.declared.symbol.Symbol.{Symbol}

-- a tree, and the place of its symbols, with the parentheses around it
pub record Part : Type 0 where
  pub tree : Tree
  pub place : Span

-- the operator that a sign stands for
abbrev pub operator_of : Sign → Option Op
operator_of sign.Plus = Some op.Add
operator_of sign.Minus = Some op.Sub
operator_of sign.Times = Some op.Mul
operator_of sign.Over = Some op.Div
operator_of sign.Power = Some op.Pow
operator_of sign.And = Some op.Cat
operator_of sign.Equal = Some op.Eq
operator_of sign.Differs = Some op.Ne
operator_of sign.Below = Some op.Lt
operator_of sign.AtMost = Some op.Le
operator_of sign.Above = Some op.Gt
operator_of sign.AtLeast = Some op.Ge
operator_of _ = None

-- how loosely an operator binds: 1 for powers up to 5 for comparisons
abbrev pub level_of : Op → ℕ
level_of op.Pow = 1
level_of op.Mul = 2
level_of op.Div = 2
level_of op.Add = 3
level_of op.Sub = 3
level_of op.Cat = 4
level_of _ = 5

-- a sign before a part
pub data Prefix : Type 0 where
  Positive : Prefix
  Negative : Prefix

abbrev pub prefix_of : Sign → Option Prefix
prefix_of sign.Plus = Some Positive
prefix_of sign.Minus = Some Negative
prefix_of _ = None

abbrev pub prefix_tree : Prefix → Span → Tree → Tree
prefix_tree Positive at x = Plus at x
prefix_tree Negative at x = Minus at x

abbrev pub is_percent : Sign → Bool
is_percent sign.Percent = true
is_percent _ = false

abbrev pub is_separator : Sign → Bool
is_separator sign.Semicolon = true
is_separator sign.Comma = true
is_separator _ = false

abbrev pub is_close : Sign → Bool
is_close sign.Close = true
is_close _ = false

abbrev pub part_at : (Span → Tree) → Span → Part
part_at make at = record { tree = make at; place = at }

abbrev pub joined : Op → Part → Part → Part
joined op x y = part_at (λ at. Infix at op x.tree y.tree) (from_to x.place y.place)

abbrev pub prefixed : Prefix → Symbol → Part → Part
prefixed prefix s x = part_at (λ at. prefix_tree prefix at x.tree) (from_to s.span x.place)

abbrev pub in_hundredths : Part → Symbol → Part
in_hundredths x s = part_at (λ at. Percent at x.tree) (from_to x.place s.span)

-- parentheses make no node
abbrev pub enclosed : Symbol → Part → Symbol → Part
enclosed s x t = record { tree = x.tree; place = from_to s.span t.span }

-- a part without parts of its own
abbrev pub leaf : Tree → Part
leaf x = record { tree = x; place = span_of x }

abbrev pub call_tree : Option Func → List ℕ → Span → List Tree → Tree
call_tree (Some f) name at args = Call at f (trees args)
call_tree None name at args = Unknown at name (trees args)

-- a call of the function with this name, in any case of letters
abbrev pub called : Setting → Symbol → List Tree → Symbol → Part
called S s args t = part_at (λ at. call_tree (func_in (bytes_of S s)) (bytes_of S s) at args) (from_to s.span t.span)
