-- Formulas that look at each cell to which they refer, whatever is known of cells.
use Rattle.std.specs.Prelude.{◌≡◌, ◌↔◌, ◌&&◌, Bool, true, false, Option, Some, Contains}
use Rattle.cell_refs.specs.declared.cell.Cell.{Cell}
use Rattle.formula_ast.specs.Tree.{Tree, Trees, none, more}
use Rattle.formula_ast.specs.Tree as tree
use Rattle.formula_ast.specs.declared.func.Func.{Func}
use Rattle.formula_ast.specs.declared.func.Func.TheVariants as func
use Rattle.form_values.specs.declared.abs.Abs.{Abs}
use Rattle.recalculation.specs.Entries.{Formula}
use Rattle.recalculation.specs.Walks.{refers}
use Rattle.form_extraction.specs.Formulas.{part_of}

-- the function neither chooses among its arguments nor picks from them
abbrev pub takes_all : Func → Bool
takes_all func.If = false
takes_all func.IfError = false
takes_all func.Choose = false
takes_all func.Index = false
takes_all func.VLookup = false
takes_all func.HLookup = false
takes_all func.SumIf = false
takes_all func.Rows = false
takes_all func.Columns = false
takes_all _ = true

-- no function in it does; a tree with a list of constants in it isn't counted among these, nor a malformed one
abbrev mutual
  pub is_plain : Tree → Bool
  is_plain (tree.Array s rows columns items) = false
  is_plain (tree.Unknown s name args) = false
  is_plain (tree.Call s f args) = takes_all f && are_plain args
  is_plain (tree.Plus s x) = is_plain x
  is_plain (tree.Minus s x) = is_plain x
  is_plain (tree.Percent s x) = is_plain x
  is_plain (tree.Infix s o x y) = is_plain x && is_plain y
  is_plain _ = true

  pub are_plain : Trees → Bool
  are_plain none = true
  are_plain (more t ts) = is_plain t && are_plain ts

-- so a plain tree looks at all cells to which it refers, and at no others
abbrev pub PlainLooksAtAll : Type 0
PlainLooksAtAll = (forms : Cell → Option Abs) (t : Tree) (b : Cell) → is_plain t ≡ true → Contains (part_of forms t).looks b ↔ (refers (Some (Formula t)) b ≡ true)
