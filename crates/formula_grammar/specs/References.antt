-- References: which symbols spell which cells (OpenDocument 1.2 part 2, sections 5.8 and 5.5.11; the forms without brackets are
-- those that spreadsheets show).
use Rattle.std.specs.Prelude.{◌≡◌, ◌⊎◌, ℕ, Bool, true, false, if◌then◌else◌, ◌==◌, List, [], ◌∷◌, ◌++◌, Option, Some, None}
use Rattle.cell_refs.specs.Address.{IsAddress, address_in}
use Rattle.cell_refs.specs.Areas.{between}
use Rattle.cell_refs.specs.Names.{place_in, same_letters}
use Rattle.cell_refs.specs.Sheets.{SpellsSheet}
use Rattle.cell_refs.specs.declared.cell.Cell.{Cell}
use Rattle.formula_ast.specs.Tree.{Referred, Listed, Unlisted}
use Rattle.formula_grammar.specs.Symbols.{Setting, bytes_of}
use Rattle.formula_grammar.specs.Words.{Given, Own, Named, Corner, corner_on, has_point, logical_word, sheet_of}
use Rattle.formula_grammar.specs.declared.symbol.Sign.TheVariants as sign
use Rattle.formula_grammar.specs.declared.symbol.Symbol.{Symbol}

-- a sheet that is listed, by its number, or one that isn't, by its name
pub data Sheet : Type 0 where
  At : (id : ℕ) → Sheet
  Lost : (name : List ℕ) → Sheet

abbrev pub listed_or_lost : List ℕ → Option ℕ → Sheet
listed_or_lost name (Some id) = At id
listed_or_lost name None = Lost name

-- the sheet that is given
abbrev pub sheet_given : Setting → Given → Sheet
sheet_given S Own = At S.home
sheet_given S (Named name) = listed_or_lost name (place_in S.sheets name)

abbrev pub same_sheet : Sheet → Sheet → Bool
same_sheet (At i) (At j) = i == j
same_sheet (Lost a) (Lost b) = same_letters a b
same_sheet _ _ = false

-- the second corner gives no sheet, or the sheet of the first
abbrev pub agrees : Setting → Given → Given → Bool
agrees S first Own = true
agrees S first (Named name) = same_sheet (sheet_given S first) (sheet_given S (Named name))

-- the cell of a corner on a sheet
abbrev pub cell_on : ℕ → Corner → Cell
cell_on id c = record { sheet = record { 0 = id }; row = c.row; col = c.column }

abbrev pub cells_between : Sheet → Corner → Corner → Referred
cells_between (At id) c d = Listed (between (cell_on id c) (cell_on id d))
cells_between (Lost name) c d = Unlisted name

-- the cells between two corners of one sheet, with their corners put in order
abbrev pub area_between : Setting → Corner → Corner → Option Referred
area_between S c d = if agrees S c.sheet d.sheet then Some (cells_between (sheet_given S c.sheet) c d) else None

-- a sheet's name and an address, joined by the last point of a word
pub record SpellsJoined (bytes name : List ℕ) (row column : ℕ) : Type 0 where
  pub sheet : List ℕ
  pub address : List ℕ
  pub joined : bytes ≡ sheet ++ 46 ∷ address
  pub last : has_point address ≡ false
  pub is_sheet : SpellsSheet sheet name
  pub is_address : IsAddress address row column

-- the corner that a word outside brackets is, unless it is TRUE or FALSE: an address; or else a listed sheet's name and an
-- address
pub data SpellsWord (S : Setting) (bytes : List ℕ) : Corner → Type 0 where
  address : {row column : ℕ} → logical_word bytes ≡ None → IsAddress bytes row column
      → SpellsWord S bytes (record { sheet = Own; row = row; column = column })
  with_sheet : {name : List ℕ} {row column id : ℕ} → logical_word bytes ≡ None → ((r c : ℕ) → IsAddress bytes r c → ⊥)
      → SpellsJoined bytes name row column → place_in S.sheets name ≡ Some id
      → SpellsWord S bytes (record { sheet = Named name; row = row; column = column })

-- a corner outside brackets
pub data SpellsCorner (S : Setting) : List Symbol → Corner → Type 0 where
  word : {c : Corner} (s : Symbol) → s.sign ≡ sign.Word → SpellsWord S (bytes_of S s) c → SpellsCorner S (s ∷ []) c
  on_sheet : {name : List ℕ} {c : Corner} (s t u : Symbol) → sheet_of S s ≡ Some name → (t.sign ≡ sign.Exclamation) ⊎ (t.sign ≡ sign.Point)
      → u.sign ≡ sign.Word → corner_on (Named name) (address_in (bytes_of S u)) ≡ Some c → SpellsCorner S (s ∷ t ∷ u ∷ []) c

-- a corner within brackets: a point and an address, with the sheet before the point or none
pub data SpellsInner (S : Setting) : List Symbol → Corner → Type 0 where
  own : {c : Corner} (t u : Symbol) → t.sign ≡ sign.Point → u.sign ≡ sign.Word → corner_on Own (address_in (bytes_of S u)) ≡ Some c
      → SpellsInner S (t ∷ u ∷ []) c
  after_sheet : {name : List ℕ} {c : Corner} (s t u : Symbol) → sheet_of S s ≡ Some name → t.sign ≡ sign.Point → u.sign ≡ sign.Word
      → corner_on (Named name) (address_in (bytes_of S u)) ≡ Some c → SpellsInner S (s ∷ t ∷ u ∷ []) c
  joined_word : {name : List ℕ} {row column : ℕ} (s : Symbol) → s.sign ≡ sign.Word → SpellsJoined (bytes_of S s) name row column
      → SpellsInner S (s ∷ []) (record { sheet = Named name; row = row; column = column })

-- a reference: one corner or two, within brackets or without
pub data SpellsReference (S : Setting) : List Symbol → Referred → Type 0 where
  cell : {a : List Symbol} {c : Corner} {r : Referred} → SpellsCorner S a c → area_between S c c ≡ Some r → SpellsReference S a r
  area : {a b : List Symbol} {c d : Corner} {r : Referred} (s : Symbol) → s.sign ≡ sign.Colon → SpellsCorner S a c → SpellsCorner S b d
      → area_between S c d ≡ Some r → SpellsReference S (a ++ s ∷ b) r
  inner_cell : {a : List Symbol} {c : Corner} {r : Referred} (s t : Symbol) → s.sign ≡ sign.OpenSquare → t.sign ≡ sign.CloseSquare
      → SpellsInner S a c → area_between S c c ≡ Some r → SpellsReference S (s ∷ (a ++ t ∷ [])) r
  inner_area : {a b : List Symbol} {c d : Corner} {r : Referred} (s t u : Symbol) → s.sign ≡ sign.OpenSquare → t.sign ≡ sign.Colon
      → u.sign ≡ sign.CloseSquare → SpellsInner S a c → SpellsInner S b d → area_between S c d ≡ Some r
      → SpellsReference S (s ∷ (a ++ t ∷ (b ++ u ∷ []))) r

-- one reference, or several joined by ~
pub data SpellsUnion (S : Setting) : List Symbol → List Referred → Type 0 where
  one : {a : List Symbol} {r : Referred} → SpellsReference S a r → SpellsUnion S a (r ∷ [])
  joined : {a b : List Symbol} {rs : List Referred} {r : Referred} (s : Symbol) → s.sign ≡ sign.Tilde → SpellsUnion S a rs
      → SpellsReference S b r → SpellsUnion S (a ++ s ∷ b) (rs ++ r ∷ [])
