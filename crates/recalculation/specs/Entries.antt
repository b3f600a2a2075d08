-- The contents of a workbook, and what its texts say (OpenDocument 1.2 part 2, section 3).
use Rattle.std.specs.Prelude.{ℕ, Bool, false, List, Option, None, option_map}
use Rattle.std.specs.FinMap.{FinMap, get}
use Rattle.fractions.specs.Rational.{ℚ}
use Rattle.cell_refs.specs.declared.cell.Cell.{Cell}
use Rattle.cell_refs.specs.Cells.{cell_cmp}
use Rattle.formula_ast.specs.Tree.{Tree}
use Rattle.sheet_model.specs.declared.value.Value.{Value}

-- the texts of cells; a cell without a text has no entry
abbrev pub Contents : Type 0
Contents = FinMap cell_cmp (List ℕ)

-- what a text says in its cell: a number, a logical or a plain text; a formula; or nothing that is allowed
pub data Entry : Type 0 where
  Constant : (value : Value) → Entry
  Formula : (tree : Tree) → Entry
  Malformed : Entry

-- a workbook: its texts, and what a text says in a cell
pub record Book : Type 0 where
  pub texts : Contents
  pub says : Cell → List ℕ → Entry

-- what a cell says, where it has a text
abbrev pub entry : Book → Cell → Option Entry
entry book a = option_map (book.says a) (get book.texts a)

-- numbers in the place of what some cells hold
abbrev pub Overriding : Type 0
Overriding = Cell → Option ℚ

-- no cell is overridden
abbrev pub nothing : Cell → Bool
nothing a = false

abbrev pub no_overriding : Overriding
no_overriding a = None
