-- The names of sheets, and how they stand before an address (OpenDocument 1.2, part 2, section 5.8).
use Rattle.std.specs.Prelude.{◌≡◌, ◌==◌, ◌||◌, ◌&&◌, ◌∷◌, ◌++◌, ℕ, suc, List, [], Bool, true, false, map, Option, Some, None, option_map, slice_get, nat_le, if◌then◌else◌}
use Rattle.std.specs.Char.{is_ascii_alphabetic, is_ascii_digit, to_ascii_lowercase}
use Rattle.std.specs.List.{list_all}
use Rattle.cell_refs.specs.Address.{address_text}

-- two names are the same but for the case of their ASCII letters
abbrev pub IsSameName : List ℕ → List ℕ → Type 0
IsSameName a b = map to_ascii_lowercase a ≡ map to_ascii_lowercase b

-- the test of it
abbrev pub same_letters : List ℕ → List ℕ → Bool
same_letters [] [] = true
same_letters (a ∷ first) (b ∷ second) = (to_ascii_lowercase a == to_ascii_lowercase b) && same_letters first second
same_letters _ _ = false

-- the place of a name among others
abbrev pub place_in : List (List ℕ) → List ℕ → Option ℕ
place_in [] name = None
place_in (own ∷ names) name = if same_letters own name then Some 0 else option_map suc (place_in names name)

-- the sheet at this place has the name
pub record IsNamed (names : List (List ℕ)) (name : List ℕ) (id : ℕ) : Type 0 where
  pub own : List ℕ
  pub there : slice_get names id ≡ Some own
  pub same : IsSameName own name

-- no two sheets have the same name
abbrev pub AreDistinct : List (List ℕ) → Type 0
AreDistinct names = (i j : ℕ) (a b : List ℕ) → slice_get names i ≡ Some a → slice_get names j ≡ Some b → IsSameName a b → i ≡ j

-- a letter, a character past ASCII, or an underscore
abbrev pub begins_word : ℕ → Bool
begins_word b = is_ascii_alphabetic b || nat_le 128 b || b == 95

-- the same, or a digit
abbrev pub goes_on_word : ℕ → Bool
goes_on_word b = begins_word b || is_ascii_digit b

-- a name that needs no quotes
abbrev pub is_plain : List ℕ → Bool
is_plain [] = false
is_plain (b ∷ rest) = begins_word b && list_all goes_on_word rest

-- a text with each quote doubled
abbrev pub doubled : List ℕ → List ℕ
doubled [] = []
doubled (b ∷ rest) = if b == 39 then 39 ∷ 39 ∷ doubled rest else b ∷ doubled rest

-- a sheet's name before an address
abbrev pub name_text : List ℕ → List ℕ
name_text name = if is_plain name then name else 39 ∷ (doubled name ++ 39 ∷ [])

-- a cell as it is printed
abbrev pub cell_text : List ℕ → ℕ → ℕ → List ℕ
cell_text name row column = name_text name ++ 33 ∷ address_text row column
