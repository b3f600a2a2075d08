-- A workbook: its sheets, the texts of its cells and its names.
use Rattle.std.specs.Prelude.{ℕ, ◌&&◌, ◌==◌, Bool, true, false, List, [], ◌∷◌, filter, length, Option, Some, None, option_map, slice_index, if◌then◌else◌}
use Rattle.std.specs.List.{find}
use Rattle.std.specs.FinMap.{entries, insert, remove}
use Rattle.cell_refs.specs.declared.cell.Cell.{Cell}
use Rattle.cell_refs.specs.Names.{same_letters}
use Rattle.recalculation.specs.Entries.{Contents}

-- a name: the sheet for which it stands, by its number, or none for the whole workbook; the sheet and the name as they are
-- spelled; the text for which it stands; and a comment, or none where its record has three fields
pub record Name : Type 0 where
  pub sheet : Option ℕ
  pub sheet_text : List ℕ
  pub name : List ℕ
  pub text : List ℕ
  pub comment : Option (List ℕ)

pub record State : Type 0 where
  pub sheets : List (List ℕ)
  pub contents : Contents
  pub names : List Name

-- ---- names
abbrev pub is_same_sheet : Option ℕ → Option ℕ → Bool
is_same_sheet None None = true
is_same_sheet (Some a) (Some b) = a == b
is_same_sheet _ _ = false

-- the name is that of the sheet, in any case of ASCII letters
abbrev pub is_called : Option ℕ → List ℕ → Name → Bool
is_called sheet name n = is_same_sheet n.sheet sheet && same_letters n.name name

-- the text for which a name of a sheet, or of the whole workbook, stands
abbrev pub text_of : List Name → Option ℕ → List ℕ → Option (List ℕ)
text_of names sheet name = option_map (λ (n : Name). n.text) (find (is_called sheet name) names)

-- ---- contents
-- an equals sign, or `of:=`, begins a formula
abbrev pub is_formula_text : List ℕ → Bool
is_formula_text text =
    if slice_index text 0 == 61 then true
    else (slice_index text 0 == 111) && ((slice_index text 1 == 102) && ((slice_index text 2 == 58) && (slice_index text 3 == 61)))

-- how many cells have a text, and how many of them one that begins a formula
abbrev pub text_count : Contents → ℕ
text_count contents = length (entries contents)

abbrev pub formula_count : Contents → ℕ
formula_count contents = length (filter (λ (e : Cell × List ℕ). is_formula_text e.1) (entries contents))

-- a text in a cell; an empty one takes away what the cell had
abbrev pub with_text : Contents → Cell → List ℕ → Contents
with_text contents cell [] = remove contents cell
with_text contents cell (b ∷ text) = insert contents cell (b ∷ text)
