-- Names that are edited one at a time.
use Rattle.std.specs.Prelude.{ℕ, Bool, not, if◌then◌else◌, List, [], ◌∷◌, ◌++◌, map, filter, Option}
use Rattle.workbook.specs.declared.names.Key.{Key}
use Rattle.workbook.specs.Naming.{is_there, with_new_text}
use Rattle.workbook.specs.State.{Name, is_called}

-- names with a text for one of them: in its place, where it is there, and else last
abbrev pub with_named : List Name → Name → List Name
with_named names n = if is_there names n.sheet n.name then map (with_new_text n.sheet n.name n.text) names else names ++ n ∷ []

-- names without one of them
abbrev pub without : Option ℕ → List ℕ → List Name → List Name
without sheet name names = filter (λ (n : Name). not (is_called sheet name n)) names

-- entries with a text in the place of that of the first name whose key passes a test
abbrev pub retexted : (Key → Bool) → List ℕ → List (Key × Name) → List (Key × Name)
retexted test text [] = []
retexted test text (e ∷ es) = if test e.0 then (e.0, record e.1 { text = text }) ∷ es else e ∷ retexted test text es
