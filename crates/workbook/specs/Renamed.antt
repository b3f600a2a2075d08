-- Cells that say something else once a name stands for something else.
use Rattle.std.specs.Prelude.{◌≡◌, ◌≢◌, ℕ, Bool, true, false, List, [], ◌∷◌, Option, Some, None}
use Rattle.std.specs.BTreeMap.{is_at}
use Rattle.std.specs.List.Sorted.{IsStrictlySortedBy}
use Rattle.std.specs.Map.{keys_of, lookup}
use Rattle.cell_refs.specs.declared.cell.Cell.{Cell}
use Rattle.cell_refs.specs.Cells.{cell_cmp}
use Rattle.cell_refs.specs.Names.{same_letters}
use Rattle.workbook.specs.declared.held.Held.{Held}
use Rattle.workbook.specs.declared.held.Said.{Said}
use Rattle.workbook.specs.declared.held.Said.TheVariants as said
use Rattle.workbook.specs.Held.{IsSoundly, entry_of, held_at}
use Rattle.workbook.specs.Kinds.{says}
use Rattle.workbook.specs.State.{Name, text_of}

-- each other name has the text that it had, for any sheet
abbrev pub OthersStay : List ℕ → List Name → List Name → Type 0
OthersStay name before after = (sheet : Option ℕ) (other : List ℕ) → same_letters other name ≡ false → text_of after sheet other ≡ text_of before sheet other

-- what is said of a cell after, where it is something else than before
abbrev pub Resaid : List (List ℕ) → List Name → List Name → Cell → Held → Option Said → Type 0
Resaid sheets before after cell held None = says sheets after cell held.text ≡ says sheets before cell held.text
Resaid sheets before after cell held (Some said) =
    IsSoundly said × (entry_of held.text said ≡ says sheets after cell held.text) × (says sheets after cell held.text ≢ says sheets before cell held.text)

-- the same of a cell, of which nothing is said where it has no text
abbrev pub ResaidAt : List (List ℕ) → List Name → List Name → Cell → Option Held → Option Said → Type 0
ResaidAt sheets before after cell None said = said ≡ None
ResaidAt sheets before after cell (Some held) said = Resaid sheets before after cell held said

abbrev pub is_malformed : Said → Bool
is_malformed said.Malformed = true
is_malformed _ = false

-- what is said of a cell, where it is something else
abbrev pub of_cell : Cell → Option Said → List (Cell × Said)
of_cell cell None = []
of_cell cell (Some said) = (cell, said) ∷ []

abbrev pub said_at : List (Cell × Said) → Cell → Option Said
said_at said cell = lookup (is_at (cell_cmp cell)) said

-- what is said after of exactly the cells that say something else, the least first
pub record AreResaid (sheets : List (List ℕ)) (before after : List Name) (es : List (Cell × Held)) (said : List (Cell × Said)) : Type 0 where
  pub each : (cell : Cell) (held : Held) → held_at es cell ≡ Some held → Resaid sheets before after cell held (said_at said cell)
  pub within : (cell : Cell) → held_at es cell ≡ None → said_at said cell ≡ None
  pub sorted : IsStrictlySortedBy cell_cmp (keys_of said)

-- what is held of a cell, with something else that is said of its text
abbrev pub resaid : Option Said → Option Held → Option Held
resaid (Some said) (Some held) = Some (record held { said = said })
resaid said held = held
