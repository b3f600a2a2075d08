-- A tree as a list that gives it back: its parts in postfix order, each behind its own parts. Only the proofs' tools need it,
-- to tell trees apart.
use Rattle.std.specs.Prelude.{◌≡◌, refl, ℕ, zero, suc, Bool, List, [], ◌∷◌}
use Rattle.std.proofs.Common.{ap, ◌∙◌}
use Rattle.fractions.specs.Rational.{ℚ}
use Rattle.cell_refs.specs.declared.span.Span.{Span}
use Rattle.cell_refs.specs.declared.op.Op.{Op}
use Rattle.cell_refs.specs.declared.error_kind.ErrorKind.{ErrorKind}
use Rattle.formula_ast.specs.declared.func.Func.{Func}
use Rattle.formula_ast.specs.Tree.{Tree, Trees, none, more, Referred}
use Rattle.formula_ast.specs.Tree as tree
use Rattle.formula_ast.specs.Sound.{count}

-- a part without its own parts, of which a list has so many
pub data Mark : Type 0 where
  Number : (at : Span) (value : ℚ) → Mark
  WideNumber : (at : Span) (value : ℚ) → Mark
  Text : (at : Span) (text : List ℕ) → Mark
  Logical : (at : Span) (value : Bool) → Mark
  Fault : (at : Span) (kind : ErrorKind) → Mark
  Missing : (at : Span) → Mark
  Array : (at : Span) (rows columns : ℕ) (count : ℕ) → Mark
  Reference : (at : Span) (areas : List Referred) → Mark
  Name : (at : Span) (name : List ℕ) → Mark
  Unknown : (at : Span) (name : List ℕ) (count : ℕ) → Mark
  Call : (at : Span) (func : Func) (count : ℕ) → Mark
  Plus : (at : Span) → Mark
  Minus : (at : Span) → Mark
  Percent : (at : Span) → Mark
  Infix : (at : Span) (op : Op) → Mark

-- the marks of a tree, and those of several, one behind the other
abbrev mutual
  pub marks : Tree → List Mark → List Mark
  marks (tree.Number at x) rest = Number at x ∷ rest
  marks (tree.WideNumber at x) rest = WideNumber at x ∷ rest
  marks (tree.Text at t) rest = Text at t ∷ rest
  marks (tree.Logical at b) rest = Logical at b ∷ rest
  marks (tree.Fault at k) rest = Fault at k ∷ rest
  marks (tree.Missing at) rest = Missing at ∷ rest
  marks (tree.Array at rows columns items) rest = all_marks items (Array at rows columns (count items) ∷ rest)
  marks (tree.Reference at areas) rest = Reference at areas ∷ rest
  marks (tree.Name at name) rest = Name at name ∷ rest
  marks (tree.Unknown at name args) rest = all_marks args (Unknown at name (count args) ∷ rest)
  marks (tree.Call at func args) rest = all_marks args (Call at func (count args) ∷ rest)
  marks (tree.Plus at x) rest = marks x (Plus at ∷ rest)
  marks (tree.Minus at x) rest = marks x (Minus at ∷ rest)
  marks (tree.Percent at x) rest = marks x (Percent at ∷ rest)
  marks (tree.Infix at op x y) rest = marks x (marks y (Infix at op ∷ rest))

  pub all_marks : Trees → List Mark → List Mark
  all_marks none rest = rest
  all_marks (more x xs) rest = all_marks xs (marks x rest)

abbrev pub some_span : Span
some_span = record { start = 0; end = 0 }

-- the uppermost tree of a stack, and what lies below it
abbrev pub top : List Tree → Tree
top [] = tree.Missing some_span
top (x ∷ stack) = x

abbrev pub below : List Tree → List Tree
below [] = []
below (x ∷ stack) = stack

-- the uppermost trees, and what lies below them
abbrev pub tops : ℕ → List Tree → Trees
tops zero stack = none
tops (suc n) stack = more (top stack) (tops n (below stack))

abbrev pub below_all : ℕ → List Tree → List Tree
below_all zero stack = stack
below_all (suc n) stack = below_all n (below stack)

-- what a mark makes of the stack
abbrev pub built : Mark → List Tree → List Tree
built (Number at x) stack = tree.Number at x ∷ stack
built (WideNumber at x) stack = tree.WideNumber at x ∷ stack
built (Text at t) stack = tree.Text at t ∷ stack
built (Logical at b) stack = tree.Logical at b ∷ stack
built (Fault at k) stack = tree.Fault at k ∷ stack
built (Missing at) stack = tree.Missing at ∷ stack
built (Array at rows columns n) stack = tree.Array at rows columns (tops n stack) ∷ below_all n stack
built (Reference at areas) stack = tree.Reference at areas ∷ stack
built (Name at name) stack = tree.Name at name ∷ stack
built (Unknown at name n) stack = tree.Unknown at name (tops n stack) ∷ below_all n stack
built (Call at func n) stack = tree.Call at func (tops n stack) ∷ below_all n stack
built (Plus at) stack = tree.Plus at (top stack) ∷ below stack
built (Minus at) stack = tree.Minus at (top stack) ∷ below stack
built (Percent at) stack = tree.Percent at (top stack) ∷ below stack
built (Infix at op) stack = tree.Infix at op (top (below stack)) (top stack) ∷ below (below stack)

abbrev pub run : List Mark → List Tree → List Tree
run [] stack = stack
run (mark ∷ rest) stack = run rest (built mark stack)

-- trees laid on a stack, so that the first lies uppermost
abbrev pub onto : Trees → List Tree → List Tree
onto none stack = stack
onto (more x xs) stack = x ∷ onto xs stack

tops_onto : (xs : Trees) (stack : List Tree) → tops (count xs) (onto xs stack) ≡ xs
tops_onto none stack = refl
tops_onto (more x xs) stack = ap (more x) (tops_onto xs stack)

below_onto : (xs : Trees) (stack : List Tree) → below_all (count xs) (onto xs stack) ≡ stack
below_onto none stack = refl
below_onto (more x xs) stack = below_onto xs stack

mutual
  runs : (x : Tree) (rest : List Mark) (stack : List Tree) → run (marks x rest) stack ≡ run rest (x ∷ stack)
  runs (tree.Number at x) rest stack = refl
  runs (tree.WideNumber at x) rest stack = refl
  runs (tree.Text at t) rest stack = refl
  runs (tree.Logical at b) rest stack = refl
  runs (tree.Fault at k) rest stack = refl
  runs (tree.Missing at) rest stack = refl
  runs (tree.Array at rows columns items) rest stack =
      runs_all items (Array at rows columns (count items) ∷ rest) stack
      ∙ ap (λ s. run rest (tree.Array at rows columns (tops (count items) (onto items stack)) ∷ s)) (below_onto items stack)
      ∙ ap (λ xs. run rest (tree.Array at rows columns xs ∷ stack)) (tops_onto items stack)
  runs (tree.Reference at areas) rest stack = refl
  runs (tree.Name at name) rest stack = refl
  runs (tree.Unknown at name args) rest stack =
      runs_all args (Unknown at name (count args) ∷ rest) stack
      ∙ ap (λ s. run rest (tree.Unknown at name (tops (count args) (onto args stack)) ∷ s)) (below_onto args stack)
      ∙ ap (λ xs. run rest (tree.Unknown at name xs ∷ stack)) (tops_onto args stack)
  runs (tree.Call at func args) rest stack =
      runs_all args (Call at func (count args) ∷ rest) stack
      ∙ ap (λ s. run rest (tree.Call at func (tops (count args) (onto args stack)) ∷ s)) (below_onto args stack)
      ∙ ap (λ xs. run rest (tree.Call at func xs ∷ stack)) (tops_onto args stack)
  runs (tree.Plus at x) rest stack = runs x (Plus at ∷ rest) stack
  runs (tree.Minus at x) rest stack = runs x (Minus at ∷ rest) stack
  runs (tree.Percent at x) rest stack = runs x (Percent at ∷ rest) stack
  runs (tree.Infix at op x y) rest stack = runs x (marks y (Infix at op ∷ rest)) stack ∙ runs y (Infix at op ∷ rest) (x ∷ stack)

  runs_all : (xs : Trees) (rest : List Mark) (stack : List Tree) → run (all_marks xs rest) stack ≡ run rest (onto xs stack)
  runs_all none rest stack = refl
  runs_all (more x xs) rest stack = runs_all xs (marks x rest) stack ∙ runs x rest (onto xs stack)

abbrev pub from_marks : List Mark → Tree
from_marks ms = top (run ms [])

abbrev pub to_marks : Tree → List Mark
to_marks x = marks x []

pub back : (x : Tree) → from_marks (to_marks x) ≡ x
back x = ap top (runs x [] [])
