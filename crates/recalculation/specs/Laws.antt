-- Laws of recalculation.
use Rattle.std.specs.Prelude.{◌≡◌, ◌<◌, ◌↔◌, ℕ, suc, Bool, true, false, List, ◌∷◌, flat_map, length, Option, Some, None, is_some, Contains}
use Rattle.std.specs.FinMap.{keys, contains_key}
use Rattle.fractions.specs.Rational.{ℚ}
use Rattle.cell_refs.specs.declared.cell.Cell.{Cell}
use Rattle.cell_refs.specs.Areas.{cells_of}
use Rattle.cell_refs.specs.declared.error_kind.ErrorKind.TheVariants as kind
use Rattle.formula_ast.specs.Tree.{Tree}
use Rattle.formula_ast.specs.Measures.{references_of}
use Rattle.formula_ast.specs.declared.func.Func.TheVariants as func
use Rattle.sheet_model.specs.declared.value.Value.{Value}
use Rattle.sheet_model.specs.declared.value.Value.TheVariants.{Number, Error}
use Rattle.recalculation.specs.Entries.{Book, Formula, Overriding, entry}
use Rattle.recalculation.specs.Walks.{has_walk, steps_to, is_circular, refers}
use Rattle.recalculation.specs.Recalculation.{recalculated, bounded_val, val}
use Rattle.sheet_model.specs.declared.grid.Arg.{Arg}
use Rattle.recalculation.specs.Looks.{Argument, Deciding, all_looks, call_looks}
use Rattle.recalculation.specs.Narrow.{known, known_over, bounded_known, is_wide, LooksAt, Looked, NoneIsWide}

-- ---- references
-- a formula refers to the cells of its references, and to no others
abbrev pub ReferredAreCells : Type 0
ReferredAreCells = (t : Tree) (b : Cell) → refers (Some (Formula t)) b ≡ true ↔ Contains (flat_map cells_of (references_of t)) b

-- ---- circular cells
-- where no walk of n + 1 references starts at a cell, none of n starts at a cell with a text to which it refers
abbrev pub WalksGetShorter : Type 0
WalksGetShorter = (book : Book) (is_leaf : Cell → Bool) (n : ℕ) (a b : Cell) → has_walk (keys book.texts) (steps_to book is_leaf) (suc n) a ≡ false
    → steps_to book is_leaf a b ≡ true → contains_key book.texts b ≡ true → has_walk (keys book.texts) (steps_to book is_leaf) n b ≡ false

-- a formula cell that isn't circular refers to none that is
abbrev pub FreeRefersToFree : Type 0
FreeRefersToFree = (book : Book) (is_leaf : Cell → Bool) (a b : Cell) → is_circular book is_leaf a ≡ false → steps_to book is_leaf a b ≡ true
    → is_circular book is_leaf b ≡ false

-- at a circular cell walks of every length start
abbrev pub CircularIsEndless : Type 0
CircularIsEndless = (book : Book) (is_leaf : Cell → Bool) (a : Cell) (m : ℕ) → is_circular book is_leaf a ≡ true
    → has_walk (keys book.texts) (steps_to book is_leaf) m a ≡ true

-- ---- values of any size
-- following more references than there are texts changes nothing, at any place
abbrev pub BoundIsEnough : Type 0
BoundIsEnough = (book : Book) (over : Overriding) (m : ℕ) (a : Cell) → length (keys book.texts) < m → bounded_val book over m a ≡ val book over a

-- the value of a cell is what its text makes of the values of the others
abbrev pub RecalculationEquation : Type 0
RecalculationEquation = (book : Book) (over : Overriding) (a : Cell) → val book over a ≡ recalculated book over (val book over) a

-- an overridden cell has its number
abbrev pub OverriddenHasItsNumber : Type 0
OverriddenHasItsNumber = (book : Book) (over : Overriding) (a : Cell) (x : ℚ) → over a ≡ Some x → val book over a ≡ Number x

-- a circular cell has the error of circular cells
abbrev pub CircularIsAnError : Type 0
CircularIsAnError = (book : Book) (over : Overriding) (a : Cell) → is_circular book (λ b. is_some (over b)) a ≡ true → val book over a ≡ Error kind.Circular

-- equal numbers at every cell give equal values
abbrev pub EqualNumbersGiveEqualValues : Type 0
EqualNumbersGiveEqualValues = (book : Book) (over under : Overriding) → ((b : Cell) → over b ≡ under b) → (a : Cell) → val book over a ≡ val book under a

-- P holds of a cell to which one in P refers, and two workbooks and overridings are alike in P
pub record AreAlikeIn (P : Cell → Type 0) (book other : Book) (over under : Overriding) : Type 0 where
  pub leads : (a b : Cell) → P a → refers (entry book a) b ≡ true → P b
  pub entries : (a : Cell) → P a → entry book a ≡ entry other a
  pub numbers : (a : Cell) → P a → over a ≡ under a

-- the value of a cell depends on the cells alone that are reached from it
abbrev pub DependsOnReached : Type 0
DependsOnReached = (reached : Cell → Bool) (book other : Book) (over under : Overriding) → AreAlikeIn (λ a. reached a ≡ true) book other over under
    → (a : Cell) → reached a ≡ true → val book over a ≡ val other under a

-- ---- narrow values
abbrev pub KnownBoundIsEnough : Type 0
KnownBoundIsEnough = (book : Book) (over : Overriding) (m : ℕ) (a : Cell) → length (keys book.texts) < m → bounded_known book over m a ≡ known book over a

abbrev pub KnownEquation : Type 0
KnownEquation = (book : Book) (over : Overriding) (a : Cell) → known book over a ≡ known_over book over (known book over) a

-- a narrow value is the value
abbrev pub KnownIsTheValue : Type 0
KnownIsTheValue = (book : Book) (over : Overriding) (a : Cell) (v : Value) → known book over a ≡ Some v → val book over a ≡ v

-- a cell has a narrow value, or else it looks, itself or by others, at a wide cell
abbrev pub WideIsLookedAt : Type 0
WideIsLookedAt = (book : Book) (over : Overriding) (a : Cell) → known book over a ≡ None → (b : Cell) × Looked book over a b × (is_wide book over b ≡ true)

-- a wide cell has no narrow value
abbrev pub WideHasNoValue : Type 0
WideHasNoValue = (book : Book) (over : Overriding) (a : Cell) → is_wide book over a ≡ true → known book over a ≡ None

-- and neither has a cell, other than a circular one, that looks at a cell without one
abbrev pub Blocked : Type 0
Blocked = (book : Book) (over : Overriding) (a b : Cell) → is_circular book (λ c. is_some (over c)) a ≡ false → LooksAt book over a b → known book over b ≡ None
    → known book over a ≡ None

-- where a cell that isn't circular has a narrow value, nothing at which it looks, itself or by others, is wide
abbrev pub KnownLooksAtNoneWide : Type 0
KnownLooksAtNoneWide = (book : Book) (over : Overriding) (a : Cell) (v : Value) → is_circular book (λ c. is_some (over c)) a ≡ false → known book over a ≡ Some v
    → NoneIsWide book over a

-- what is looked at has a text and is referred to
abbrev pub LookedIsReferred : Type 0
LookedIsReferred = (book : Book) (over : Overriding) (a b : Cell) → LooksAt book over a b → (contains_key book.texts b ≡ true) × (refers (entry book a) b ≡ true)

-- ---- what isn't decided
-- where the first argument of IF doesn't decide, IF looks at all of its arguments
abbrev pub UndecidedIfLooksAtAll : Type 0
UndecidedIfLooksAtAll = (d : Deciding Arg Value) (known : Cell → Option Value) (a : Argument Arg) (others : List (Argument Arg)) (v : Arg) → a.outcome ≡ Some v → d.truth v ≡ None
    → call_looks d known func.If (a ∷ others) ≡ all_looks (a ∷ others)

-- where that of IFERROR or CHOOSE doesn't, they look at it alone
abbrev pub UndecidedLooksAtItself : Type 0
UndecidedLooksAtItself = (d : Deciding Arg Value) (known : Cell → Option Value) (a : Argument Arg) (others : List (Argument Arg)) (v : Arg) → a.outcome ≡ Some v
    → (d.is_error v ≡ None → call_looks d known func.IfError (a ∷ others) ≡ a.looks) × (d.place v ≡ None → call_looks d known func.Choose (a ∷ others) ≡ a.looks)
