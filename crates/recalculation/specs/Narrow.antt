-- Recalculation on narrow numbers: the value of a cell where it has one, the wide cells, and what is looked at.
use Rattle.std.specs.Prelude.{◌≡◌, ◌≢◌, ℕ, suc, Bool, true, false, not, ◌&&◌, if◌then◌else◌, length, Option, Some, None, is_some, is_none, option_map, Contains}
use Rattle.std.specs.FinMap.{keys, contains_key}
use Rattle.std.specs.declared.cmp.Ordering.TheVariants.{Greater}
use Rattle.fractions.specs.Rational.{ℚ}
use Rattle.cell_refs.specs.declared.cell.Cell.{Cell}
use Rattle.cell_refs.specs.Cells.{cell_cmp}
use Rattle.cell_refs.specs.declared.error_kind.ErrorKind.TheVariants as kind
use Rattle.sheet_model.specs.declared.value.Value.{Value}
use Rattle.sheet_model.specs.declared.value.Value.TheVariants.{Number, Empty, Error}
use Rattle.recalculation.specs.Entries.{Book, Entry, Constant, Formula, Malformed, Overriding, entry}
use Rattle.recalculation.specs.Walks.{is_circular, refers, unfolded}
use Rattle.recalculation.specs.Evaluation.{cell_value}
use Rattle.recalculation.specs.Looking.{looked_at, outcome_of, are_known}

-- ---- values
-- what a cell says has a value where all that it looks at has one and its numbers are narrow
abbrev pub entry_known : (Cell → Option Value) → Option Entry → Option Value
entry_known others None = Some Empty
entry_known others (Some (Constant v)) = Some v
entry_known others (Some (Formula t)) = option_map cell_value (outcome_of others t (looked_at others t))
entry_known others (Some Malformed) = Some (Error kind.Malformed)

abbrev pub number_or : Option ℚ → Option Value → Option Value
number_or (Some x) v = Some (Number x)
number_or None v = v

abbrev pub known_over : Book → Overriding → (Cell → Option Value) → Cell → Option Value
known_over book over others a =
    number_or (over a) (if is_circular book (λ b. is_some (over b)) a then Some (Error kind.Circular) else entry_known others (entry book a))

unfoldable pub bounded_known : Book → Overriding → ℕ → Cell → Option Value
bounded_known book over n a = unfolded (known_over book over) (Some (Error kind.Circular)) n a

-- the value of a cell, where it has a narrow one
unfoldable pub known : Book → Overriding → Cell → Option Value
known book over a = bounded_known book over (suc (length (keys book.texts))) a

-- ---- wide cells
-- whether a formula looks at values alone, and has none itself
abbrev pub entry_is_wide : (Cell → Option Value) → Option Entry → Bool
entry_is_wide others (Some (Formula t)) = are_known others (looked_at others t) && is_none (outcome_of others t (looked_at others t))
entry_is_wide others _ = false

-- a cell is wide where all that it looks at has a value and it has none, since a number isn't narrow
abbrev pub is_wide : Book → Overriding → Cell → Bool
is_wide book over a =
    not (is_some (over a)) && (not (is_circular book (λ b. is_some (over b)) a) && entry_is_wide (known book over) (entry book a))

-- ---- what is looked at
abbrev pub Among : (Cell → Option Value) → Option Entry → Cell → Type 0
Among others (Some (Formula t)) b = Contains (looked_at others t) b
Among others _ b = ⊥

-- what a cell says looks at what its formula looks at, and where it is circular at all to which it refers
abbrev pub LooksFrom : Bool → (Cell → Option Value) → Option Entry → Cell → Type 0
LooksFrom true others e b = refers e b ≡ true
LooksFrom false others e b = Among others e b

-- whether a cell, which isn't overridden, looks at the cell b, which has a text
abbrev pub LooksAt : Book → Overriding → Cell → Cell → Type 0
LooksAt book over a b =
    (over a ≡ None) × (contains_key book.texts b ≡ true) × LooksFrom (is_circular book (λ c. is_some (over c)) a) (known book over) (entry book a) b

-- a cell itself, what it looks at, what that looks at, and so on
pub data Looked (book : Book) (over : Overriding) (a : Cell) : Cell → Type 0 where
  itself : Looked book over a a
  further : (b c : Cell) → Looked book over a b → LooksAt book over b c → Looked book over a c

-- c is the least wide cell among those
pub record IsLeastWide (book : Book) (over : Overriding) (a c : Cell) : Type 0 where
  pub looked : Looked book over a c
  pub wide : is_wide book over c ≡ true
  pub least : (b : Cell) → Looked book over a b → is_wide book over b ≡ true → cell_cmp c b ≢ Greater

-- none of them is wide
abbrev pub NoneIsWide : Book → Overriding → Cell → Type 0
NoneIsWide book over a = (b : Cell) → Looked book over a b → is_wide book over b ≡ false
