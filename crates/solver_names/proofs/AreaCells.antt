-- The cells of areas, each once: which they are, how many, and which cell of another area is none of them.
use Rattle.std.proofs.Common.{◌≡◌, ◌<◌, ◌≤◌, ◌+◌, ◌-◌, ◌*◌, ◌/◌, ◌%◌, ℕ, zero, suc, Bool, true, false, inl, inr, List, [], ◌∷◌, ◌++◌, map, flat_map, length, take, get_or, refl, sym, ap, ap₂, ◌∙◌, arith, subst, append-nil}
use Rattle.std.specs.Prelude.{◌&&◌, ◌||◌, ◌==◌, fold, nat_le}
use Rattle.std.specs.List.{All, insert, list_any, range_with_len}
use Rattle.std.specs.List.Sorted.{IsPermutation}
use Rattle.std.proofs.Math.Bool.{or-true}
use Rattle.std.proofs.Math.Seq.{take-suc}
use Rattle.std.proofs.Math.Nat.{div-lt_iff_lt-mul, mod-lt}
use Rattle.std.proofs.lemmas.Bool.{and_parts, eqb-true, leb-true, or_cases}
use Rattle.std.proofs.lemmas.List.{take_all}
use Rattle.std.proofs.lemmas.Nat.{mul-le}
use Rattle.std.proofs.lemmas.Grind.{flat_map-append}
use Rattle.std.proofs.lemmas.List.Elements.{All-cons, All-head, All-tail}
use Rattle.std.proofs.lemmas.List.Folds.{list_any-append}
use Rattle.std.proofs.lemmas.List.Sorted.{All-permutation, IsNonDecreasingBy-insert, IsPermutation-cons, IsPermutation-insert, IsPermutation-sym, IsPermutation-to_front, IsPermutation-trans, list_any-IsPermutation}
use Rattle.std.proofs.lemmas.List.Sums.{fold-append}
use Rattle.cell_refs.specs.declared.cell.Cell.{Cell}
use Rattle.cell_refs.specs.Areas.{Area, area_height, area_len, area_width, bottom, cell_at, cells_of, right, within}
use Rattle.cell_refs.specs.Cells.{is_same_cell}
use Rattle.solver_names.specs.Constraints.{is_among}
use Rattle.solver_names.specs.Counts.{AreByTop, IsPlaced, bit, cell_of, in_column, is_covered, on_all_sheets, on_sheet}
use Rattle.solver_names.specs.Faults.{other_cell}
use Rattle.solver_names.specs.Texts.{with_cell}
use Rattle.solver_names.proofs.CellLists.{other_from, other_later}
use Rattle.solver_names.proofs.Counting.{AreBelow, IsBelow, all_counted, passing_same}
use Rattle.cell_refs.proofs.SameCells.{same_itself}
use Rattle.solver_names.proofs.MarkedCells.{among_area, cells_more}
use Rattle.solver_names.proofs.Sums.{sum_zero}

abbrev pub all_cells : List Area → List Cell
all_cells areas = fold with_cell [] (flat_map cells_of areas)

-- ---- which they are
among_areas : (areas : List Area) (c : Cell) → is_among (flat_map cells_of areas) c ≡ is_covered areas c
among_areas [] c = refl
among_areas (a ∷ areas) c = list_any-append (is_same_cell c) (cells_of a) (flat_map cells_of areas) ∙ ap₂ (λ p q. p || q) (among_area a c) (among_areas areas c)

pub among_all : (areas : List Area) (c : Cell) → is_among (all_cells areas) c ≡ is_covered areas c
among_all areas c = cells_more [] (flat_map cells_of areas) c ∙ among_areas areas c

pub among_by_top : (areas by_top : List Area) → AreByTop areas by_top → (c : Cell) → is_among (all_cells areas) c ≡ is_covered by_top c
among_by_top areas by_top are c = among_all areas c ∙ list_any-IsPermutation (λ (a : Area). within a c) areas by_top are.same

-- ---- one area more
pub one_area : (areas : List Area) (a : Area) → all_cells (areas ++ a ∷ []) ≡ fold with_cell (all_cells areas) (cells_of a)
one_area areas a =
    ap (fold with_cell []) (flat_map-append cells_of areas (a ∷ []) ∙ ap (λ l. flat_map cells_of areas ++ l) (append-nil (cells_of a)))
    ∙ fold-append with_cell [] (flat_map cells_of areas) (cells_of a)

-- ---- one area more that is listed
pub area_listed : (areas : List Area) (i : ℕ) (a : Area) (old new : List Cell) → i < length areas → a ≡ get_or areas i a → old ≡ all_cells (take i areas) → new ≡ fold with_cell old (cells_of a)
    → new ≡ all_cells (take (i + 1) areas)
area_listed areas i a old new below is so_far put =
    let q : suc i ≡ i + 1 = omega arith in
    put ∙ ap (λ cells. fold with_cell cells (cells_of a)) so_far ∙ sym (one_area (take i areas) a) ∙ ap (λ b. all_cells (take i areas ++ b ∷ [])) is
    ∙ ap all_cells (sym (take-suc areas i a below) ∙ ap (λ n. take n areas) q)

pub areas_listed : (areas : List Area) (i : ℕ) (cells : List Cell) → length areas ≤ i → cells ≡ all_cells (take i areas) → cells ≡ all_cells areas
areas_listed areas i cells all so_far = so_far ∙ ap all_cells (take_all i areas all)

-- ---- areas in two orders
pub area_in_turn : (areas by_top : List Area) (a : Area) (i : ℕ) → AreByTop areas by_top → IsPlaced a → i ≤ length by_top
    → ((k : ℕ) (d : Area) → k < i → (get_or by_top k d).top ≤ a.top) → ((k : ℕ) (d : Area) → i ≤ k → k < length by_top → a.top ≤ (get_or by_top k d).top)
    → AreByTop (areas ++ a ∷ []) (insert by_top i a)
area_in_turn areas by_top a i are placed within before behind =
    let moved : IsPermutation (a ∷ by_top) (insert by_top i a) = IsPermutation-insert by_top i a in
    record {
      same = IsPermutation-trans (areas ++ a ∷ []) (a ∷ areas) (insert by_top i a) (IsPermutation-to_front areas a)
          (IsPermutation-trans (a ∷ areas) (a ∷ by_top) (insert by_top i a) (IsPermutation-cons a areas by_top are.same) moved);
      rising = IsNonDecreasingBy-insert (λ (b : Area). b.top) by_top i a are.rising within before behind;
      placed = All-permutation IsPlaced (a ∷ by_top) (insert by_top i a) moved (All-cons IsPlaced a by_top placed are.placed);
    }

-- ---- how many they are
below_if : (cells : List Cell) → ((c : Cell) → is_among cells c ≡ true → IsBelow 256 1024 4096 c) → AreBelow 256 1024 4096 cells
below_if [] h = tt
below_if (c ∷ cells) h = (
  h c (ap (λ p. p || is_among cells c) (same_itself c)),
  below_if cells (λ d there. h d (ap (λ q. is_same_cell d c || q) there ∙ or-true (is_same_cell d c))),
)

area_below : (a : Area) (c : Cell) → IsPlaced a → within a c ≡ true → IsBelow 256 1024 4096 c
area_below a c placed h =
    let sheet = and_parts (a.sheet.0 == c.sheet.0) _ h in
    let top = and_parts (nat_le a.top c.row) _ sheet.1 in
    let low = and_parts (nat_le c.row (bottom a)) _ top.1 in
    let left = and_parts (nat_le a.left c.col) (nat_le c.col (right a)) low.1 in
    let same : a.sheet.0 ≡ c.sheet.0 = eqb-true a.sheet.0 c.sheet.0 sheet.0 in
    let row : c.row ≤ bottom a = leb-true c.row (bottom a) low.0 in
    let col : c.col ≤ right a = leb-true c.col (right a) left.1 in
    let last_row : bottom a < 4096 = placed.on_sheet.last_row in
    let last_column : right a < 1024 = placed.on_sheet.last_column in
    let few : a.sheet.0 < 256 = placed.sheet in
    record { sheet = omega (arith, same, few); column = omega (arith, col, last_column); row = omega (arith, row, last_row) }

covered_below : (areas : List Area) (c : Cell) → All IsPlaced areas → is_covered areas c ≡ true → IsBelow 256 1024 4096 c
covered_below [] c placed h = absurd cc
covered_below (a ∷ areas) c placed h = elim (or_cases (within a c) (is_covered areas c) h) [
  | inl here ↦ area_below a c (All-head IsPlaced a areas placed) here
  | inr there ↦ covered_below areas c (All-tail IsPlaced a areas placed) there
]

pub cells_counted : (areas by_top : List Area) → AreByTop areas by_top → on_all_sheets by_top ≡ length (all_cells areas)
cells_counted areas by_top are =
    let placed : All IsPlaced areas = All-permutation IsPlaced by_top areas (IsPermutation-sym areas by_top are.same) are.placed in
    let below : AreBelow 256 1024 4096 (flat_map cells_of areas) =
    below_if (flat_map cells_of areas) (λ c there. covered_below areas c placed (sym (among_areas areas c) ∙ there)) in
    passing_same 256 1024 4096 (is_covered by_top) (is_among (all_cells areas)) (λ c. sym (among_by_top areas by_top are c))
    ∙ all_counted 256 1024 4096 (flat_map cells_of areas) below

-- a sheet on which no area lies
none_there : (areas : List Area) (sheet col row : ℕ) → list_any (λ (a : Area). a.sheet.0 == sheet) areas ≡ false → is_covered areas (cell_of sheet col row) ≡ false
none_there [] sheet col row h = refl
none_there (a ∷ areas) sheet col row h =
    let own = false_or (a.sheet.0 == sheet) (list_any (λ (b : Area). b.sheet.0 == sheet) areas) h in
    ap₂ (λ p q. (p && (nat_le a.top row && (nat_le row (bottom a) && (nat_le a.left col && nat_le col (right a))))) || q) own.0 (none_there areas sheet col row own.1)
  where
    false_or : (p q : Bool) → (p || q) ≡ false → (p ≡ false) × (q ≡ false)
    false_or true q h = absurd cc
    false_or false q h = (refl, h)

pub unused_sheet : (areas : List Area) (sheet : ℕ) → list_any (λ (a : Area). a.sheet.0 == sheet) areas ≡ false → 0 ≡ on_sheet areas sheet
unused_sheet areas sheet none =
    sym (sum_zero (λ col. in_column areas sheet col) 1024 (λ col _. sum_zero (λ row. bit (is_covered areas (cell_of sheet col row))) 4096 (λ row _. ap bit (none_there areas sheet col row none))))

-- ---- cells of another area
-- where the rows above one are covered, the first cell that isn't stands in it or below
pub other_behind : (areas by_top : List Area) (a : Area) (row : ℕ) → AreByTop areas by_top → a.top ≤ row → row ≤ bottom a + 1
    → ((above col : ℕ) → a.top ≤ above → above < row → a.left ≤ col → col ≤ right a → is_covered by_top (cell_of a.sheet.0 col above) ≡ true)
    → other_cell (all_cells areas) (cells_of a) ≡ other_from (all_cells areas) a ((row - a.top) * area_width a)
other_behind areas by_top a row are from to had = behind ((row - a.top) * area_width a) (omega arith)
  where
    most : (row - a.top) * area_width a ≤ area_len a
    most = mul-le (row - a.top) (area_width a) (area_height a) (area_width a) (omega (arith, to)) (omega arith)

    covered : (place : ℕ) → place < (row - a.top) * area_width a → is_among (all_cells areas) (cell_at a place) ≡ true
    covered place below =
        let some : 0 < area_width a = omega arith in
        let high : place / area_width a < row - a.top = (div-lt_iff_lt-mul some).1 below in
        let column : place % area_width a < area_width a = mod-lt place some in
        among_by_top areas by_top are (cell_at a place)
        ∙ had (a.top + place / area_width a) (a.left + place % area_width a) (omega arith) (omega (arith, high)) (omega arith) (omega (arith, column))

    behind : (place : ℕ) → place ≤ (row - a.top) * area_width a → other_cell (all_cells areas) (cells_of a) ≡ other_from (all_cells areas) a place
    behind zero h =
        let all : area_len a - 0 ≡ area_len a = omega arith in
        ap (λ n. other_cell (all_cells areas) (map (cell_at a) (range_with_len 0 n))) (sym all)
    behind (suc place) h =
        let next : place + 1 ≡ suc place = omega arith in
        subst (λ n. other_cell (all_cells areas) (cells_of a) ≡ other_from (all_cells areas) a n) next
        (other_later (all_cells areas) a place (cell_at a place) (omega (arith, h, most)) refl (covered place (omega (arith, h))) (behind place (omega (arith, h))))
