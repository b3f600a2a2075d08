-- Numbers that overrode cells and are then written into them.
use Rattle.std.specs.Prelude.{◌≡◌, ◌⊎◌, false, Option, Some, None}
use Rattle.fractions.specs.Rational.{ℚ}
use Rattle.calculations.specs.Calculation.{exact}
use Rattle.cell_refs.specs.declared.cell.Cell.{Cell}
use Rattle.formula_ast.specs.Tree.{Tree}
use Rattle.sheet_model.specs.declared.value.Value.{Value}
use Rattle.sheet_model.specs.declared.value.Value.TheVariants.{Number}
use Rattle.recalculation.specs.Entries.{Book, Entry, Constant, Formula, Overriding, entry, no_overriding}
use Rattle.recalculation.specs.Evaluation.{evaluated, cell_value}
use Rattle.recalculation.specs.Recalculation.{val}
use Rattle.recalculation.specs.Walks.{refers}

-- a formula that refers to no cell and is worth a number, whatever the cells hold
pub record IsWorth (t : Tree) (x : ℚ) : Type 0 where
  pub alone : (b : Cell) → refers (Some (Formula t)) b ≡ false
  pub worth : (values : Cell → Value) → cell_value (exact (evaluated values t)) ≡ Number x

-- what a cell says is a number, or a formula that is worth it
abbrev pub Says : Option Entry → ℚ → Type 0
Says e x = (e ≡ Some (Constant (Number x))) ⊎ ((t : Tree) × (e ≡ Some (Formula t)) × IsWorth t x)

-- the number of each overridden cell is written into it, and every other cell says what it said
pub record IsWritten (before : Book) (over : Overriding) (after : Book) : Type 0 where
  pub written : (c : Cell) (x : ℚ) → over c ≡ Some x → Says (entry after c) x
  pub others : (c : Cell) → over c ≡ None → entry after c ≡ entry before c

-- recalculation is then, with no cell overridden, what it was with these overridden
abbrev pub WrittenIsOverridden : Type 0
WrittenIsOverridden = (before : Book) (over : Overriding) (after : Book) → IsWritten before over after → (c : Cell) → val after no_overriding c ≡ val before over c
