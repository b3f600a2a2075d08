-- What is held of the cells.
use Rattle.std.specs.Prelude.{◌≡◌, ◌≢◌, ◌≤◌, ℕ, List, [], ◌∷◌, length, map, All, Option, Some, None, option_map, ⊤}
use Rattle.std.specs.Option.{option_map_or}
use Rattle.std.specs.Global.{Box}
use Rattle.std.specs.FinMap.{from_entries, insert}
use Rattle.std.specs.BTreeMap.{is_at}
use Rattle.std.specs.Map.{lookup}
use Rattle.cell_refs.specs.declared.cell.Cell.{Cell}
use Rattle.cell_refs.specs.Cells.{cell_cmp}
use Rattle.formula_ast.specs.Sound.{IsSound}
use Rattle.formula_ast.specs.Tree.{Tree}
use Rattle.sheet_model.specs.declared.value.Value.TheVariants as value
use Rattle.recalculation.specs.Entries.{Contents, Entry, Constant, Formula, Malformed}
use Rattle.workbook.specs.declared.held.Held.{Held}
use Rattle.workbook.specs.declared.held.Said.{Said}
use Rattle.workbook.specs.declared.held.Said.TheVariants as said
use Rattle.cell_refs.specs.declared.limits.TheConstants.{FORMULAS, TEXTS}
use Rattle.workbook.specs.Kinds.{meant, says, with_names}
use Rattle.cell_refs.specs.Listed.{IsListed}
use Rattle.workbook.specs.Scoped.{IsShort}
use Rattle.workbook.specs.State.{Name, formula_count, text_count}

-- what a text says, as it is held
abbrev pub entry_of : List ℕ → Said → Entry
entry_of text (said.Number x) = Constant (value.Number x)
entry_of text (said.Logical b) = Constant (value.Logical b)
entry_of text said.Plain = Constant (value.Text text)
entry_of text (said.Formula t) = Formula t
entry_of text said.Malformed = Malformed

-- the texts of what is held
abbrev pub text_entry : Cell × Held → Cell × List ℕ
text_entry e = (e.0, e.1.text)

abbrev pub contents_of : List (Cell × Held) → Contents
contents_of es = from_entries (map text_entry es)

-- a formula's tree, as it is held, is sound
abbrev pub IsSoundly : Said → Type 0
IsSoundly (said.Formula t) = IsSound t
IsSoundly _ = ⊤

-- the tree of a formula's text before names stand for something, where names stand in it; what another text says doesn't depend on
-- the names
abbrev pub IsSpelled : List (List ℕ) → Cell → List ℕ → Option Tree → Type 0
IsSpelled sheets cell text (Some t) =
    (names : List Name) → says sheets names cell text ≡ option_map_or Formula (with_names (meant sheets names cell.sheet.0) t) Malformed
IsSpelled sheets cell text None = (names others : List Name) → says sheets names cell text ≡ says sheets others cell text

-- the tree as it is spelled and what is said of a text are what they are to be
pub record SaysSpelled (sheets : List (List ℕ)) (names : List Name) (cell : Cell) (text : List ℕ) (p : Option (Box Tree) × Said) : Type 0 where
  pub agrees : entry_of text p.1 ≡ says sheets names cell text
  pub sound : IsSoundly p.1
  pub spelled : IsSpelled sheets cell text (option_map (λ b. b.value) p.0)

abbrev pub spelled_tree : Held → Option Tree
spelled_tree held = option_map (λ b. b.value) held.spelled

-- what is held of a cell on a sheet says what its text says, which is not empty
pub record IsHeld (sheets : List (List ℕ)) (names : List Name) (cell : Cell) (held : Held) : Type 0 where
  pub listed : IsListed sheets cell
  pub some : held.text ≢ []
  pub agrees : entry_of held.text held.said ≡ says sheets names cell held.text
  pub sound : IsSoundly held.said
  pub spelled : IsSpelled sheets cell held.text (spelled_tree held)

-- what is held of a cell
abbrev pub held_at : List (Cell × Held) → Cell → Option Held
held_at es cell = lookup (is_at (cell_cmp cell)) es

abbrev pub AllAreHeld : List (List ℕ) → List Name → List (Cell × Held) → Type 0
AllAreHeld sheets names es = (cell : Cell) (held : Held) → held_at es cell ≡ Some held → IsHeld sheets names cell held

-- what holds of a workbook: names have short texts, each text is held with what it says, and texts and formulas are counted
pub record IsKept (sheets : List (List ℕ)) (names : List Name) (es : List (Cell × Held)) (formulas : ℕ) : Type 0 where
  pub short : All IsShort names
  pub held : AllAreHeld sheets names es
  pub counted : length es ≡ text_count (contents_of es)
  pub few : length es ≤ TEXTS
  pub numbered : formulas ≡ formula_count (contents_of es)
  pub few_formulas : formulas ≤ FORMULAS

-- texts put into cells, the last of them first
abbrev pub put_all : List (Cell × List ℕ) → Contents → Contents
put_all [] contents = contents
put_all (e ∷ es) contents = insert (put_all es contents) e.0 e.1
