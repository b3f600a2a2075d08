-- The area of a text lies on one of the sheets.
use Rattle.std.proofs.Common.{◌≡◌, ◌<◌, ◌≤◌, ◌-◌, ◌/◌, ◌%◌, ℕ, suc, Bool, true, false, cond, List, [], ◌∷◌, length, Option, Some, None, refl, ap, subst, ◌∙◌, arith}
use Rattle.std.specs.Prelude.{◌&&◌, nat_le, option_map, if◌then◌else◌}
use Rattle.std.specs.List.{AllByRecursion, range_with_len}
use Rattle.std.specs.Option.{option_and_then}
use Rattle.std.specs.Str.{all_ascii_digits}
use Rattle.std.specs.Str.Parse.{digits_value}
use Rattle.std.proofs.Math.Nat.{div-lt_iff_lt-mul, mod-lt}
use Rattle.std.proofs.lemmas.Bool.{leb-true}
use Rattle.cell_refs.specs.Address.{address_in, behind_letters, column_number, letters_of}
use Rattle.cell_refs.specs.Areas.{Area, area_height, area_len, area_width, between, bottom, cell_at, cells_of, right}
use Rattle.cell_refs.specs.Names.{place_in, same_letters}
use Rattle.cell_refs.specs.declared.limits.TheConstants.{COLUMNS, ROWS}
use Rattle.formula_ast.specs.Tree.{Listed, Referred, Unlisted}
use Rattle.formula_grammar.specs.LeafReading.{reference_at}
use Rattle.formula_grammar.specs.Loops.{Found}
use Rattle.formula_grammar.specs.References.{At, Lost, Sheet, SpellsCorner, SpellsInner, SpellsReference, SpellsWord, address, after_sheet, agrees, area, area_between, cell, cell_on, cells_between, inner_area, inner_cell, joined_word, listed_or_lost, on_sheet, own, sheet_given, with_sheet, word}
use Rattle.formula_grammar.specs.Symbols.{Setting, bytes_of, symbols_of}
use Rattle.formula_grammar.specs.Words.{Corner, Given, Named, Own, corner_on}
use Rattle.formula_grammar.specs.declared.symbol.Symbol.{Symbol}
use Rattle.formula_grammar.proofs.LeafSound.{reference_sound}
use Rattle.formula_grammar.proofs.Turns.{bind_some, some_is}
use Rattle.formula_parser.specs.Leaves.{area_of}
use Rattle.formula_parser.specs.TextTrees.{area_in, to_the_end, tokens_in}
use Rattle.recalculation.proofs.GridCells.{each_below, each_map}
use Rattle.recalculation.proofs.Lists.{each_weaker}
use Rattle.cell_refs.specs.Listed.{IsListed}

-- the area lies on one of the sheets
pub record Lies (sheets : List (List ℕ)) (a : Area) : Type 0 where
  pub sheet : a.sheet.0 < length sheets
  pub last_row : bottom a < ROWS
  pub last_column : right a < COLUMNS

-- ---- cells
-- so does each of its cells
pub cell_listed : (sheets : List (List ℕ)) (a : Area) → Lies sheets a → (place : ℕ) → place < area_len a → IsListed sheets (cell_at a place)
cell_listed sheets a h place below =
    let some : 0 < area_width a = omega arith in
    let row : place / area_width a < area_height a = (div-lt_iff_lt-mul some).1 below in
    let column : place % area_width a < area_width a = mod-lt place some in
    record { sheet = h.sheet; row = omega (arith, row, h.last_row); column = omega (arith, column, h.last_column) }

pub cells_listed : (sheets : List (List ℕ)) (a : Area) → Lies sheets a → AllByRecursion (IsListed sheets) (cells_of a)
cells_listed sheets a h =
    each_map (IsListed sheets) (cell_at a) (range_with_len 0 (area_len a))
    (each_weaker (λ place. place < area_len a) (λ place. IsListed sheets (cell_at a place)) (cell_listed sheets a h) (range_with_len 0 (area_len a)) (each_below (area_len a)))

-- ---- corners
-- the corner stands within the limits
record Fits (c : Corner) : Type 0 where
  pub row : c.row < ROWS
  pub column : c.column < COLUMNS

limits : (b : Bool) (column row : ℕ) (a : ℕ × ℕ) → (if b && (nat_le 1 column && nat_le column COLUMNS) && (nat_le 1 row && nat_le row ROWS) then Some (row - 1, column - 1) else None) ≡ Some a
    → (a.0 < ROWS) × (a.1 < COLUMNS)
limits b column row a e = by b (nat_le 1 column) (nat_le column COLUMNS) (nat_le 1 row) (nat_le row ROWS) refl refl refl refl e
  where
    by : (c t u v w : Bool) → nat_le 1 column ≡ t → nat_le column COLUMNS ≡ u → nat_le 1 row ≡ v → nat_le row ROWS ≡ w
        → (if c && (t && u) && (v && w) then Some (row - 1, column - 1) else None) ≡ Some a → (a.0 < ROWS) × (a.1 < COLUMNS)
    by true true true true true p q r s e =
        let same : (row - 1, column - 1) ≡ a = some_is (row - 1, column - 1) a e in
        let first : row - 1 ≡ a.0 = ap (λ (x : ℕ × ℕ). x.0) same in
        let second : column - 1 ≡ a.1 = ap (λ (x : ℕ × ℕ). x.1) same in
        let some_row : 1 ≤ row = leb-true 1 row r in
        let most_row : row ≤ ROWS = leb-true row ROWS s in
        let some_column : 1 ≤ column = leb-true 1 column p in
        let most_column : column ≤ COLUMNS = leb-true column COLUMNS q in
        (omega (arith, first, some_row, most_row), omega (arith, second, some_column, most_column))
    by false t u v w p q r s e = absurd cc
    by true false u v w p q r s e = absurd cc
    by true true false v w p q r s e = absurd cc
    by true true true false w p q r s e = absurd cc
    by true true true true false p q r s e = absurd cc

corner_on_fits : (sheet : Given) (text : List ℕ) (c : Corner) → corner_on sheet (address_in text) ≡ Some c → Fits c
corner_on_fits sheet text c e = by (address_in text) refl e
  where
    by : (o : Option (ℕ × ℕ)) → address_in text ≡ o → corner_on sheet o ≡ Some c → Fits c
    by None is h = absurd cc
    by (Some a) is h =
        let l = limits (all_ascii_digits (behind_letters text)) (column_number (letters_of text)) (digits_value 10 (behind_letters text)) a is in
        subst Fits (some_is (record { sheet = sheet; row = a.0; column = a.1 }) c h) (record { row = l.0; column = l.1 })

-- ---- sheets
place_below : (names : List (List ℕ)) (name : List ℕ) (id : ℕ) → place_in names name ≡ Some id → id < length names
place_below [] name id e = absurd cc
place_below (first ∷ names) name id e = by (same_letters first name) (place_in names name) (place_below names name) refl e
  where
    by : (b : Bool) (o : Option ℕ) → ((k : ℕ) → place_in names name ≡ Some k → k < length names) → place_in names name ≡ o
        → (if b then Some 0 else option_map suc o) ≡ Some id → id < suc (length names)
    by true o below is h = let k : 0 ≡ id = cc in omega (arith, k)
    by false None below is h = absurd cc
    by false (Some k) below is h = let less = below k is in let same : suc k ≡ id = cc in omega (arith, less, same)

module _ (S : Setting) where
  sheet_below : (g : Given) (id : ℕ) → S.home < length S.sheets → sheet_given S g ≡ At id → id < length S.sheets
  sheet_below Own id home e = let same : S.home ≡ id = cc in omega (arith, home, same)
  sheet_below (Named name) id home e = by (place_in S.sheets name) refl e
    where
      by : (o : Option ℕ) → place_in S.sheets name ≡ o → listed_or_lost name o ≡ At id → id < length S.sheets
      by None is h = absurd cc
      by (Some k) is h = let less = place_below S.sheets name k is in let same : k ≡ id = cc in omega (arith, less, same)

  -- ---- references
  word_fits : {bytes : List ℕ} {c : Corner} → SpellsWord S bytes c → Fits c
  word_fits (address other is) = record { row = is.in_rows; column = is.in_columns }
  word_fits (with_sheet other none joined there) = record { row = joined.is_address.in_rows; column = joined.is_address.in_columns }

  corner_fits : {ss : List Symbol} {c : Corner} → SpellsCorner S ss c → Fits c
  corner_fits (word s is spelled) = word_fits spelled
  corner_fits (on_sheet {name = name} {c = c} s t u sheet mark is spelled) = corner_on_fits (Named name) (bytes_of S u) c spelled

  inner_fits : {ss : List Symbol} {c : Corner} → SpellsInner S ss c → Fits c
  inner_fits (own {c = c} t u point is spelled) = corner_on_fits Own (bytes_of S u) c spelled
  inner_fits (after_sheet {name = name} {c = c} s t u sheet point is spelled) = corner_on_fits (Named name) (bytes_of S u) c spelled
  inner_fits (joined_word s is joined) = record { row = joined.is_address.in_rows; column = joined.is_address.in_columns }

  module _ (home : S.home < length S.sheets) (a : Area) where
    between_lies : (c d : Corner) → Fits c → Fits d → area_between S c d ≡ Some (Listed a) → Lies S.sheets a
    between_lies c d p q e = by (agrees S c.sheet d.sheet) (sheet_given S c.sheet) refl e
      where
        by : (b : Bool) (s : Sheet) → sheet_given S c.sheet ≡ s → cond b (Some (cells_between s c d)) None ≡ Some (Listed a) → Lies S.sheets a
        by true (At id) is h =
            let same : between (cell_on id c) (cell_on id d) ≡ a = cc in
            let below = sheet_below c.sheet id home is in
            subst (Lies S.sheets) same (record { sheet = below; last_row = omega (arith, p.row, q.row); last_column = omega (arith, p.column, q.column) })
        by true (Lost name) is h = absurd cc
        by false s is h = absurd cc

    reference_lies : {ss : List Symbol} {r : Referred} → SpellsReference S ss r → r ≡ Listed a → Lies S.sheets a
    reference_lies (cell {c = c} x e) is = between_lies c c (corner_fits x) (corner_fits x) (e ∙ ap Some is)
    reference_lies (area {c = c} {d = d} s colon x y e) is = between_lies c d (corner_fits x) (corner_fits y) (e ∙ ap Some is)
    reference_lies (inner_cell {c = c} s t left right x e) is = between_lies c c (inner_fits x) (inner_fits x) (e ∙ ap Some is)
    reference_lies (inner_area {c = c} {d = d} s t u left colon right x y e) is = between_lies c d (inner_fits x) (inner_fits y) (e ∙ ap Some is)

ended : (o : Found Referred) (a : Area) → option_and_then area_of (to_the_end o) ≡ Some a → o ≡ Some (Listed a, [])
ended None a e = absurd cc
ended (Some (Listed b, [])) a e = let same : b ≡ a = cc in ap (λ x. Some (Listed x, [])) same
ended (Some (Unlisted name, [])) a e = absurd cc
ended (Some (r, (s ∷ ss))) a e = absurd cc

-- the area of a text that is read for a sheet that there is
pub area_lies : (S : Setting) (a : Area) → S.home < length S.sheets → area_in S ≡ Some a → Lies S.sheets a
unfolding area_in
area_lies S a home e =
    let t = bind_some (tokens_in S.text) (λ ts. option_and_then area_of (to_the_end (reference_at S (symbols_of S.text ts)))) a e in
    let ss = symbols_of S.text t.0 in
    reference_lies S home a (reference_sound S ss (Listed a, []) (ended (reference_at S ss) a t.2)).spells refl
