-- Names with an edit of one of them.
use Rattle.std.specs.Prelude.{◌&&◌, ℕ, Bool, List, Option, Some, None, option_map, string_bytes}
use Rattle.cell_refs.specs.Names.{same_letters}
use Rattle.workbook.specs.declared.change.Change.{Change}
use Rattle.workbook.specs.declared.change.Given.{Given}
use Rattle.workbook.specs.EditedNames.{with_named, without}
use Rattle.workbook.specs.State.{Name, is_same_sheet}

-- the edit is one of this name, in any case of ASCII letters
abbrev pub is_of : Option ℕ → List ℕ → Change → Bool
is_of sheet name change = is_same_sheet (option_map (λ s. s.0) change.sheet) sheet && same_letters (string_bytes change.name) name

-- the text of the name after it
abbrev pub given_text : Change → Option (List ℕ)
given_text change = option_map (λ (g : Given). string_bytes g.text) change.given

-- the names after it
abbrev pub after_given : Option ℕ → List ℕ → Option Given → List Name → List Name
after_given sheet name None names = without sheet name names
after_given sheet name (Some g) names =
    with_named names (record { sheet = sheet; sheet_text = string_bytes g.sheet_text; name = name; text = string_bytes g.text; comment = None })

abbrev pub after_change : List Name → Change → List Name
after_change names change = after_given (option_map (λ s. s.0) change.sheet) (string_bytes change.name) change.given names

-- the names after an edit, where there is one
abbrev pub changed : List Name → Option Change → List Name
changed names None = names
changed names (Some change) = after_change names change
