-- Names by their keys.
use Rattle.std.specs.Prelude.{◌≡◌, ◌&&◌, Bool, List, [], ◌∷◌, map, nat_eq}
use Rattle.std.specs.Option.{option_eq}
use Rattle.std.specs.Str.{bytes_eq}
use Rattle.std.specs.Char.{to_ascii_lowercase}
use Rattle.workbook.specs.State.{Name}
use Rattle.workbook.specs.declared.names.Key.{Key}

-- whether two keys are the same
abbrev pub is_key : Key → Key → Bool
is_key key k = option_eq nat_eq key.sheet k.sheet && bytes_eq key.letters.items k.letters.items

-- the key has the name's sheet, and its letters made small
pub record IsKeyed (e : Key × Name) : Type 0 where
  pub sheet : e.0.sheet ≡ e.1.sheet
  pub letters : e.0.letters.items ≡ map to_ascii_lowercase e.1.name

abbrev pub AllAreKeyed : List (Key × Name) → Type 0
AllAreKeyed [] = Unit {0}
AllAreKeyed (e ∷ es) = IsKeyed e × AllAreKeyed es
