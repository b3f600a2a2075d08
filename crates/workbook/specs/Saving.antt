-- The records under which names are saved.
use Rattle.std.specs.Prelude.{ℕ, List, [], ◌∷◌, map, Option, Some, None}
use Rattle.sheet_csv.specs.Sheet.{Record}
use Rattle.workbook.specs.State.{Name}

-- a comment is a fourth field, where there is one
abbrev pub comment_fields : Option (List ℕ) → Record
comment_fields None = []
comment_fields (Some comment) = comment ∷ []

abbrev pub saved_name : Name → Record
saved_name n = n.sheet_text ∷ n.name ∷ n.text ∷ comment_fields n.comment

-- the records of the names, in their order and as they are spelled
abbrev pub saved_names : List Name → List Record
saved_names names = map saved_name names
