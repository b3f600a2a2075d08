-- Rows of values: what is computed of formula cells.
use Rattle.std.specs.Prelude.{◌≡◌, ℕ, Bool, true, if◌then◌else◌, List, [], map, Option, Some, None, is_some, length, sum_by, Contains, option_map}
use Rattle.std.specs.BTreeMap.{is_at}
use Rattle.std.specs.List.{list_any}
use Rattle.std.specs.FinMap.{contains_key}
use Rattle.std.specs.Map.{lookup}
use Rattle.cell_refs.specs.declared.cell.Cell.{Cell}
use Rattle.cell_refs.specs.declared.error_kind.ErrorKind.TheVariants as error
use Rattle.cell_refs.specs.Cells.{cell_cmp}
use Rattle.formula_ast.specs.Tree.{Tree}
use Rattle.sheet_model.specs.declared.value.Value.{Value}
use Rattle.sheet_model.specs.declared.value.Value.TheVariants.{Empty, Error, Logical, Number, Text}
use Rattle.recalculation.specs.Entries.{Book, Entry, Constant, Formula, Malformed, entry, no_overriding}
use Rattle.recalculation.specs.Evaluation.{cell_value}
use Rattle.recalculation.specs.Looking.{looked_at, outcome_of}
use Rattle.recalculation.specs.Narrow.{known, is_wide, entry_is_wide, LooksAt}
use Rattle.workbook.specs.declared.kind.Kind.{Kind}
use Rattle.workbook.specs.declared.kind.Kind.TheVariants as kind
use Rattle.recalc.specs.declared.rows.Row.{Row}

-- the row of a cell
abbrev pub row_at : List (Cell × Row) → Cell → Option Row
row_at rows a = lookup (is_at (cell_cmp a)) rows

-- a row is that of a cell with a text: its value, where it has a narrow one, whether it is wide, and, if these are kept, the cells
-- at which it looks, among others that have no text
pub record IsRowOf (book : Book) (keeps_looks : Bool) (a : Cell) (row : Row) : Type 0 where
  pub text : contains_key book.texts a ≡ true
  pub value : row.value ≡ known book no_overriding a
  pub wide : row.is_wide ≡ is_wide book no_overriding a
  pub looks : keeps_looks ≡ true → (b : Cell) → LooksAt book no_overriding a b → Contains row.looks.items b
  pub looked : (b : Cell) → contains_key book.texts b ≡ true → Contains row.looks.items b → LooksAt book no_overriding a b

-- rows of formula cells, each that of its cell
pub record AreRows (book : Book) (keeps_looks : Bool) (rows : List (Cell × Row)) : Type 0 where
  pub right : (a : Cell) (row : Row) → row_at rows a ≡ Some row → IsRowOf book keeps_looks a row

-- a formula cell has a row
abbrev pub HasRow : List (Cell × Row) → Cell → Type 0
HasRow rows a = is_some (row_at rows a) ≡ true

-- ---- what is known from rows
abbrev pub value_in : Option Row → Option Value
value_in None = None
value_in (Some row) = row.value

-- the value of what a cell says: that of a formula is in its row, if it has one
abbrev pub seen_by : Option Entry → Option Row → Option Value
seen_by None row = Some Empty
seen_by (Some (Constant v)) row = Some v
seen_by (Some (Formula t)) row = value_in row
seen_by (Some Malformed) row = Some (Error error.Malformed)

abbrev pub seen_in : Book → List (Cell × Row) → Cell → Option Value
seen_in book rows a = seen_by (entry book a) (row_at rows a)

-- what is seen of a cell by the kind and the text that are read of it
abbrev pub seen_of : Kind → List ℕ → Option Row → Option Value
seen_of kind.Empty text row = Some Empty
seen_of (kind.Number x) text row = Some (Number x)
seen_of (kind.Logical b) text row = Some (Logical b)
seen_of kind.Plain text row = Some (Text text)
seen_of kind.Formula text row = value_in row
seen_of kind.Malformed text row = Some (Error error.Malformed)

-- how many cells are in the rows' lists
abbrev pub looks_in : List (Cell × Row) → ℕ
looks_in rows = sum_by (λ (e : Cell × Row). length e.1.looks.items) rows

-- the cells at which is looked, if these are kept
abbrev pub kept_looks : Bool → List Cell → List Cell
kept_looks keeps_looks looks = if keeps_looks then looks else []

-- a row is computed of a formula, where the values of some cells are known
pub record IsComputed (known : Cell → Option Value) (t : Tree) (keeps_looks : Bool) (row : Row) : Type 0 where
  pub value : row.value ≡ option_map cell_value (outcome_of known t (looked_at known t))
  pub wide : row.is_wide ≡ entry_is_wide known (Some (Formula t))
  pub looks : row.looks.items ≡ kept_looks keeps_looks (looked_at known t)

-- whether a row is wide
abbrev pub some_wide : List (Cell × Row) → Bool
some_wide rows = list_any (λ (row : Row). row.is_wide) (map (λ (e : Cell × Row). e.1) rows)
