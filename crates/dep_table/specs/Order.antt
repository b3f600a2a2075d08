-- An order of formulas.
use Rattle.std.specs.Prelude.{◌≡◌, ◌<◌, ℕ, Bool, true, false, List, Some, slice_get}
use Rattle.cell_refs.specs.declared.cell.Cell.{Cell}
use Rattle.recalculation.specs.Entries.{Book, entry}
use Rattle.recalculation.specs.Walks.{is_circular, is_formula, steps_to}

-- some formula cells of a workbook that aren't circular, each once, after those to which it refers; a leaf refers to none
pub record IsOrder (book : Book) (is_leaf : Cell → Bool) (order : List Cell) : Type 0 where
  pub formula : (p : ℕ) (a : Cell) → slice_get order p ≡ Some a → is_formula (entry book a) ≡ true
  pub free : (p : ℕ) (a : Cell) → slice_get order p ≡ Some a → is_circular book is_leaf a ≡ false
  pub earlier : (p : ℕ) (a b : Cell) → slice_get order p ≡ Some a → steps_to book is_leaf a b ≡ true
      → is_formula (entry book b) ≡ true → (q : ℕ) × (q < p) × (slice_get order q ≡ Some b)
  pub once : (p q : ℕ) (a : Cell) → slice_get order p ≡ Some a → slice_get order q ≡ Some a → p ≡ q

-- the order has each of them that is wanted
abbrev pub HasFree : Book → (Cell → Bool) → (Cell → Type 0) → List Cell → Type 0
HasFree book is_leaf Wanted order = (a : Cell) → Wanted a → is_formula (entry book a) ≡ true → is_circular book is_leaf a ≡ false
    → (p : ℕ) × (slice_get order p ≡ Some a)

-- a set has circular cells alone, and each circular cell that is wanted
pub record HasCircular (book : Book) (is_leaf : Cell → Bool) (Wanted : Cell → Type 0) (has : Cell → Bool) : Type 0 where
  pub circular : (a : Cell) → has a ≡ true → is_circular book is_leaf a ≡ true
  pub all : (a : Cell) → Wanted a → is_circular book is_leaf a ≡ true → has a ≡ true

-- a cell itself, the cells to which its formula refers, those to which theirs refer, and so on; a leaf refers to none
pub data Reaches (book : Book) (is_leaf : Cell → Bool) (from : Cell) : Cell → Type 0 where
  itself : Reaches book is_leaf from from
  further : (b c : Cell) → Reaches book is_leaf from b → steps_to book is_leaf b c ≡ true → Reaches book is_leaf from c
