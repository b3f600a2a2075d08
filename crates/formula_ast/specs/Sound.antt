-- What holds of every formula's tree: the span of a part lies within that of the part around it, a call has as many arguments
-- as its function takes, an array is rectangular, a reference has at least one area, its sheets are there, and its numbers are
-- narrow.
use Rattle.std.specs.Prelude.{◌≡◌, ◌<◌, ◌≤◌, ℕ, suc, ◌*◌, length, All}
use Rattle.cell_refs.specs.declared.span.Span.{Span}
use Rattle.cell_refs.specs.Areas.{IsOnSheet}
use Rattle.formula_ast.specs.Functions.{Takes}
use Rattle.formula_ast.specs.Tree.{Tree, Trees, none, more, Referred, Listed, Unlisted, span_of}
use Rattle.formula_ast.specs.Tree as tree

-- a span does not end before it starts
abbrev pub IsForward : Span → Type 0
IsForward s = s.start ≤ s.end

-- one span lies within another
pub record IsWithin (inner outer : Span) : Type 0 where
  pub start : outer.start ≤ inner.start
  pub end : inner.end ≤ outer.end

-- the sheet of an area is there, and the area lies on it
abbrev pub IsOnItsSheet : Referred → Type 0
IsOnItsSheet (Listed a) = IsOnSheet a
IsOnItsSheet (Unlisted sheet) = ⊥

-- what may stand in an array: a number, a text or a logical
abbrev pub IsItem : Tree → Type 0
IsItem (tree.Number at x) = Unit {0}
IsItem (tree.Text at t) = Unit {0}
IsItem (tree.Logical at b) = Unit {0}
IsItem _ = ⊥

abbrev pub AreItems : Trees → Type 0
AreItems none = Unit {0}
AreItems (more x xs) = IsItem x × AreItems xs

-- how many there are
abbrev pub count : Trees → ℕ
count none = 0
count (more x xs) = suc (count xs)

-- so many rows of so many items
pub record IsRectangular (rows columns : ℕ) (items : Trees) : Type 0 where
  pub some_rows : 0 < rows
  pub some_columns : 0 < columns
  pub size : count items ≡ rows * columns
  pub literals : AreItems items

abbrev mutual
  -- a sound tree
  pub IsSound : Tree → Type 0
  IsSound (tree.Number at x) = IsForward at
  IsSound (tree.WideNumber at x) = ⊥
  IsSound (tree.Text at t) = IsForward at
  IsSound (tree.Logical at b) = IsForward at
  IsSound (tree.Fault at k) = IsForward at
  IsSound (tree.Missing at) = IsForward at
  IsSound (tree.Array at rows columns items) = IsForward at × IsRectangular rows columns items × AreSoundWithin at items
  IsSound (tree.Reference at areas) = IsForward at × (0 < length areas) × All IsOnItsSheet areas
  IsSound (tree.Name at name) = IsForward at
  IsSound (tree.Unknown at name args) = IsForward at × AreSoundWithin at args
  IsSound (tree.Call at func args) = IsForward at × Takes func (count args) × AreSoundWithin at args
  IsSound (tree.Plus at x) = IsForward at × (IsWithin (span_of x) at × IsSound x)
  IsSound (tree.Minus at x) = IsForward at × (IsWithin (span_of x) at × IsSound x)
  IsSound (tree.Percent at x) = IsForward at × (IsWithin (span_of x) at × IsSound x)
  IsSound (tree.Infix at op x y) = IsForward at × (IsWithin (span_of x) at × IsSound x) × (IsWithin (span_of y) at × IsSound y)

  -- sound trees whose spans lie within another
  pub AreSoundWithin : Span → Trees → Type 0
  AreSoundWithin outer none = Unit {0}
  AreSoundWithin outer (more x xs) = IsWithin (span_of x) outer × IsSound x × AreSoundWithin outer xs
