-- Reading a word that is a corner of a reference.
use Rattle.std.specs.Prelude.{ℕ, Bool, if◌then◌else◌, nat_eq, List, [], ◌∷◌, Option, Some, None, option_map}
use Rattle.std.specs.Option.{option_and_then}
use Rattle.cell_refs.specs.Address.{address_in}
use Rattle.cell_refs.specs.Names.{place_in}
use Rattle.cell_refs.specs.Sheets.{sheet_in}
use Rattle.formula_grammar.specs.Symbols.{Setting}
use Rattle.formula_grammar.specs.Words.{Given, Own, Named, Corner, corner_on, logical_word}

-- what stands before and behind the last point
abbrev pub with_byte : ℕ → Option (List ℕ × List ℕ) → List ℕ → Option (List ℕ × List ℕ)
with_byte b (Some p) bytes = Some (b ∷ p.0, p.1)
with_byte b None bytes = if nat_eq b 46 then Some ([], bytes) else None

abbrev pub at_last_point : List ℕ → Option (List ℕ × List ℕ)
at_last_point [] = None
at_last_point (b ∷ bytes) = with_byte b (at_last_point bytes) bytes

-- a sheet's name and an address, joined by a point in one word
abbrev pub split_corner : List ℕ → Option Corner
split_corner bytes = option_and_then (λ (p : List ℕ × List ℕ). option_and_then (λ name. corner_on (Named name) (address_in p.1)) (sheet_in p.0)) (at_last_point bytes)

-- the corner, if its sheet is listed
abbrev pub if_listed : List (List ℕ) → Given → Corner → Option Corner
if_listed sheets Own c = Some c
if_listed sheets (Named name) c = option_map (λ _. c) (place_in sheets name)

abbrev pub or_else : Option Corner → Option Corner → Option Corner
or_else (Some c) other = Some c
or_else None other = other

abbrev pub unless_logical : Option Bool → Option Corner → Option Corner
unless_logical (Some b) corner = None
unless_logical None corner = corner

-- the corner that a word outside brackets is, unless it is TRUE or FALSE: an address; or a listed sheet's name and an address,
-- joined by a point
abbrev pub word_corner : Setting → List ℕ → Option Corner
word_corner S bytes =
    unless_logical (logical_word bytes)
    (or_else (corner_on Own (address_in bytes)) (option_and_then (λ c. if_listed S.sheets c.sheet c) (split_corner bytes)))
