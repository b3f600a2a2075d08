-- The sheet before an address (OpenDocument 1.2, part 2, section 5.8): a word, or a name in single quotes; a dollar sign that
-- leads it is no part of the name.
use Rattle.std.specs.Prelude.{◌≡◌, ◌==◌, ◌||◌, ◌&&◌, ◌∷◌, ◌++◌, ◌↔◌, ℕ, List, [], Bool, true, false, Option, Some, None, option_map, if◌then◌else◌}
use Rattle.std.specs.List.{list_all}
use Rattle.cell_refs.specs.Address.{without_dollar}
use Rattle.cell_refs.specs.Names.{begins_word, doubled, goes_on_word}

-- a word without a point; dollar signs may stand in it
abbrev pub is_sheet_word : List ℕ → Bool
is_sheet_word [] = false
is_sheet_word (b ∷ rest) = (begins_word b || b == 36) && list_all (λ c. goes_on_word c || c == 36) rest

-- how the name of a sheet is spelled before an address
pub data SpellsSheet : List ℕ → List ℕ → Type 0 where
  word : {text : List ℕ} → is_sheet_word text ≡ true → SpellsSheet text (without_dollar text)
  quoted : {text : List ℕ} (name : List ℕ) → without_dollar text ≡ 39 ∷ (doubled name ++ 39 ∷ []) → SpellsSheet text name

abbrev mutual
  -- a name that ends with its closing quote, where each quote in the name is doubled
  pub unquoted : List ℕ → Option (List ℕ)
  unquoted [] = None
  unquoted (b ∷ text) = if b == 39 then behind_quote text else option_map (λ name. b ∷ name) (unquoted text)

  -- the same behind a quote, which is the closing one, or the first of two
  pub behind_quote : List ℕ → Option (List ℕ)
  behind_quote [] = Some []
  behind_quote (b ∷ text) = if b == 39 then option_map (λ name. 39 ∷ name) (unquoted text) else None

-- a name in quotes
abbrev pub in_quotes : List ℕ → Option (List ℕ)
in_quotes [] = None
in_quotes (b ∷ text) = if b == 39 then unquoted text else None

-- the name of the sheet that a text before an address spells, if it spells one
abbrev pub sheet_in : List ℕ → Option (List ℕ)
sheet_in text = if is_sheet_word text then Some (without_dollar text) else in_quotes (without_dollar text)

-- whether a quote leads a text
abbrev pub begins_with_quote : List ℕ → Bool
begins_with_quote [] = false
begins_with_quote (b ∷ rest) = b == 39

-- whether a text is a word or in quotes as far as it begins: no other spells a sheet
abbrev pub may_spell_sheet : List ℕ → Bool
may_spell_sheet text = is_sheet_word text || begins_with_quote (without_dollar text)

-- it is the one that is spelled, so a text spells one at most
abbrev pub SheetsAreSpelled : Type 0
SheetsAreSpelled = (text name : List ℕ) → (sheet_in text ≡ Some name) ↔ SpellsSheet text name
