-- The cells of an area are those within it, so a formula refers to the cells of its references.
use Rattle.std.proofs.Common.{◌≡◌, ◌∙◌, ℕ, zero, suc, ◌+◌, ◌-◌, ◌*◌, ◌/◌, ◌%◌, ◌<◌, ◌≤◌, true, false, List, [], ◌∷◌, ◌++◌, eq-eqb, zero-add, refl, sym, ap, subst, arith}
use Rattle.std.specs.Prelude.{Some, ◌||◌, ◌&&◌, ◌==◌, nat_le, map, flat_map, Contains}
use Rattle.std.specs.List.{AllByRecursion, list_any, range_with_len}
use Rattle.std.proofs.lemmas.Bool.{le-leb, leb-true, eqb-true}
use Rattle.std.proofs.lemmas.List.Elements.{All-contains, All-from_recursion, Contains-append_left, Contains-append_right}
use Rattle.std.proofs.lemmas.Nat.{div-mul-add, mod-mul-add, mul-add-lt}
use Rattle.std.proofs.Math.Nat.{div-lt_iff_lt-mul, mod-lt}
use Rattle.cell_refs.specs.declared.cell.Cell.{Cell}
use Rattle.cell_refs.specs.Areas.{Area, bottom, right, area_height, area_width, area_len, cell_at, cells_of, within}
use Rattle.formula_ast.specs.Tree.{Tree}
use Rattle.formula_ast.specs.Measures.{references_of}
use Rattle.recalculation.specs.Entries.{Formula}
use Rattle.recalculation.specs.Walks.{refers}
use Rattle.recalculation.specs.Laws.{ReferredAreCells}
use Rattle.recalculation.proofs.Lists.{both, first_true, second_true, each_weaker, either_first, either_second}
use Rattle.recalculation.proofs.GridCells.{each_below, each_map}
use Rattle.recalculation.proofs.Reading.{EachOf, joined}

-- the cell at a place of the area
place_within : (a : Area) (place : ℕ) → place < area_len a → within a (cell_at a place) ≡ true
place_within a place h =
    let some : 0 < area_width a = omega arith in
    let row : place / area_width a < area_height a = (div-lt_iff_lt-mul some).1 h in
    let column : place % area_width a < area_width a = mod-lt place some in
    let top = le-leb a.top (a.top + place / area_width a) (omega arith) in
    let lowest = le-leb (a.top + place / area_width a) (bottom a) (omega (arith, row)) in
    let left = le-leb a.left (a.left + place % area_width a) (omega arith) in
    let rightmost = le-leb (a.left + place % area_width a) (right a) (omega (arith, column)) in
    both _ _ (eq-eqb a.sheet.0 a.sheet.0 refl) (both _ _ top (both _ _ lowest (both _ _ left rightmost)))

-- so are all of its cells
cells_within : (a : Area) → AllByRecursion (λ b. within a b ≡ true) (cells_of a)
cells_within a =
    each_map (λ b. within a b ≡ true) (cell_at a) (range_with_len 0 (area_len a))
    (each_weaker (λ place. place < area_len a) (λ place. within a (cell_at a place) ≡ true) (place_within a) (range_with_len 0 (area_len a)) (each_below (area_len a)))

-- the cells of some areas are within one of them
all_within : (areas : List Area) → EachOf (λ b. list_any (λ a. within a b) areas ≡ true) areas
all_within [] = tt
all_within (a ∷ areas) = (
  each_weaker (λ b. within a b ≡ true) (λ b. list_any (λ a. within a b) (a ∷ areas) ≡ true) (λ b h. either_first (within a b) (list_any (λ a. within a b) areas) h) (cells_of a) (cells_within a),
  each_weaker (λ (c : Area). AllByRecursion (λ b. list_any (λ a. within a b) areas ≡ true) (cells_of c)) (λ (c : Area). AllByRecursion (λ b. list_any (λ a. within a b) (a ∷ areas) ≡ true) (cells_of c))
      (λ c. each_weaker (λ b. list_any (λ a. within a b) areas ≡ true) (λ b. list_any (λ a. within a b) (a ∷ areas) ≡ true) (λ b h. either_second (within a b) (list_any (λ a. within a b) areas) h) (cells_of c))
      areas (all_within areas),
)

-- a formula refers to each cell of its references
pub each_referred : (t : Tree) → EachOf (λ b. refers (Some (Formula t)) b ≡ true) (references_of t)
each_referred t = all_within (references_of t)

-- so what holds of all to which it refers holds of each of these
pub of_referred : (P : Cell → Type 0) (t : Tree) → ((b : Cell) → refers (Some (Formula t)) b ≡ true → P b) → EachOf P (references_of t)
of_referred P t h =
    each_weaker (λ (a : Area). AllByRecursion (λ b. refers (Some (Formula t)) b ≡ true) (cells_of a)) (λ (a : Area). AllByRecursion P (cells_of a))
    (λ a. each_weaker (λ b. refers (Some (Formula t)) b ≡ true) P h (cells_of a)) (references_of t) (each_referred t)

-- ---- and it refers to no others
-- the element that is made of a number of a range
in_range : {A : Type 0} (f : ℕ → A) (start n k : ℕ) → k < n → Contains (map f (range_with_len start n)) (f (start + k))
in_range f start zero k h = absurd (omega (arith, h))
in_range f start (suc n) zero h = let e : start + 0 ≡ start = omega arith in (0, omega arith, ap f (sym e))
in_range f start (suc n) (suc k) h =
    let e : start + 1 + k ≡ start + suc k = omega arith in
    let there = in_range f (start + 1) n k (omega (arith, h)) in
    let past : Contains (map f (range_with_len start (suc n))) (f (start + 1 + k)) = (suc there.0, omega (arith, there.1), there.2) in
    subst (λ m. Contains (map f (range_with_len start (suc n))) (f m)) e past

-- a cell within an area is the one at the place of its row and column
at_its_place : (a : Area) (b : Cell) → a.sheet.0 ≡ b.sheet.0 → a.top ≤ b.row → a.left ≤ b.col → b.col ≤ right a
    → cell_at a ((b.row - a.top) * area_width a + (b.col - a.left)) ≡ b
at_its_place a b sheet top left most =
    let near : b.col - a.left < area_width a = omega (arith, left, most) in
    let row : a.top + ((b.row - a.top) * area_width a + (b.col - a.left)) / area_width a ≡ b.row =
    ap (λ n. a.top + n) (div-mul-add (b.row - a.top) (area_width a) (b.col - a.left) near) ∙ omega (arith, top) in
    let column : a.left + ((b.row - a.top) * area_width a + (b.col - a.left)) % area_width a ≡ b.col =
    ap (λ n. a.left + n) (mod-mul-add (b.row - a.top) (area_width a) (b.col - a.left) near) ∙ omega (arith, left) in
    λ i. record { sheet = record { 0 = sheet i }; row = row i; col = column i }

-- so it is one of the area's cells
cell_there : (a : Area) (b : Cell) → within a b ≡ true → Contains (cells_of a) b
cell_there a b h =
    let in_rows = second_true (a.sheet.0 == b.sheet.0) (nat_le a.top b.row && (nat_le b.row (bottom a) && (nat_le a.left b.col && nat_le b.col (right a)))) h in
    let above_last = second_true (nat_le a.top b.row) (nat_le b.row (bottom a) && (nat_le a.left b.col && nat_le b.col (right a))) in_rows in
    let in_columns = second_true (nat_le b.row (bottom a)) (nat_le a.left b.col && nat_le b.col (right a)) above_last in
    let top : a.top ≤ b.row = leb-true a.top b.row (first_true (nat_le a.top b.row) _ in_rows) in
    let lowest : b.row ≤ bottom a = leb-true b.row (bottom a) (first_true (nat_le b.row (bottom a)) _ above_last) in
    let left : a.left ≤ b.col = leb-true a.left b.col (first_true (nat_le a.left b.col) _ in_columns) in
    let most : b.col ≤ right a = leb-true b.col (right a) (second_true (nat_le a.left b.col) (nat_le b.col (right a)) in_columns) in
    let near : b.col - a.left < area_width a = omega (arith, left, most) in
    let low : b.row - a.top < area_height a = omega (arith, top, lowest) in
    let turned : area_width a * area_height a ≡ area_len a = omega arith in
    let place : (b.row - a.top) * area_width a + (b.col - a.left) < area_len a =
    subst (λ n. (b.row - a.top) * area_width a + (b.col - a.left) < n) turned (mul-add-lt (b.row - a.top) (area_width a) (b.col - a.left) (area_height a) low near) in
    let count : ℕ = (b.row - a.top) * area_width a + (b.col - a.left) in
    subst (Contains (cells_of a))
    (ap (cell_at a) (zero-add count) ∙ at_its_place a b (eqb-true a.sheet.0 b.sheet.0 (first_true (a.sheet.0 == b.sheet.0) _ h)) top left most)
    (in_range (cell_at a) 0 (area_len a) count place)

-- the same of some areas
cells_there : (areas : List Area) (b : Cell) → list_any (λ a. within a b) areas ≡ true → Contains (flat_map cells_of areas) b
cells_there [] b h = cc
cells_there (a ∷ areas) b h =
    elim (within a b) as (λ w. within a b ≡ w → (w || list_any (λ a. within a b) areas) ≡ true → Contains (cells_of a ++ flat_map cells_of areas) b) [
      | true ↦ λ e h. Contains-append_left (cells_of a) (flat_map cells_of areas) b (cell_there a b e)
      | false ↦ λ e h. Contains-append_right (cells_of a) (flat_map cells_of areas) b (cells_there areas b h)
    ] refl h

-- what a formula refers to are the cells of its references
pub referred_are_cells : ReferredAreCells
referred_are_cells t b = (
  cells_there (references_of t) b,
  λ h. All-contains (λ b. refers (Some (Formula t)) b ≡ true) (flat_map cells_of (references_of t)) b
      (All-from_recursion (λ b. refers (Some (Formula t)) b ≡ true) (flat_map cells_of (references_of t))
      (joined (λ b. refers (Some (Formula t)) b ≡ true) (references_of t) (each_referred t))) h,
)
