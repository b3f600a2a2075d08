-- What a workbook answers of its cells and names.
use Rattle.std.specs.Prelude.{◌≡◌, ◌≢◌, ℕ, true, List, [], Option, Some, None, unwrap_or}
use Rattle.std.specs.FinMap.{get, contains_key}
use Rattle.std.specs.declared.cmp.Ordering.TheVariants.{Less}
use Rattle.cell_refs.specs.declared.cell.Cell.{Cell}
use Rattle.cell_refs.specs.Cells.{cell_cmp}
use Rattle.formula_ast.specs.Tree.{Tree}
use Rattle.sheet_model.specs.declared.value.Value.TheVariants as value
use Rattle.recalculation.specs.Entries.{Contents, Entry, Constant, Formula, Malformed}
use Rattle.workbook.specs.declared.kind.Kind.{Kind}
use Rattle.workbook.specs.declared.kind.Kind.TheVariants as kind

-- the text of a cell, empty where it has none
abbrev pub content_of : Contents → Cell → List ℕ
content_of contents cell = unwrap_or (get contents cell) []

-- the kind of what a cell says
abbrev pub kind_of : Option Entry → Kind
kind_of None = kind.Empty
kind_of (Some (Constant (value.Number x))) = kind.Number x
kind_of (Some (Constant (value.Logical b))) = kind.Logical b
kind_of (Some (Constant _)) = kind.Plain
kind_of (Some (Formula t)) = kind.Formula
kind_of (Some Malformed) = kind.Malformed

-- its tree, where it is a formula
abbrev pub tree_of : Option Entry → Option Tree
tree_of (Some (Formula t)) = Some t
tree_of _ = None

-- a cell stands behind another, where one is given
abbrev pub IsPast : Option Cell → Cell → Type 0
IsPast None cell = Unit {0}
IsPast (Some after) cell = cell_cmp after cell ≡ Less

-- the least cell with a text behind another
pub record IsNext (contents : Contents) (after : Option Cell) (cell : Cell) : Type 0 where
  pub text : contains_key contents cell ≡ true
  pub past : IsPast after cell
  pub least : (other : Cell) → contains_key contents other ≡ true → IsPast after other → cell_cmp other cell ≢ Less

-- no cell with a text stands there
abbrev pub IsLast : Contents → Option Cell → Type 0
IsLast contents after = (other : Cell) → contains_key contents other ≡ true → IsPast after other → ⊥
