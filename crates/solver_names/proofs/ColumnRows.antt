-- What a column has of areas in the order of their tops.
use Rattle.std.proofs.Common.{◌≡◌, ◌<◌, ◌≤◌, ◌+◌, ◌-◌, ℕ, suc, Bool, true, false, inl, inr, ◌⊎◌, min, max, List, [], ◌∷◌, length, get_or, drop, refl, sym, ap, ap₂, ◌∙◌, arith, subst}
use Rattle.std.specs.Prelude.{◌&&◌, ◌||◌, ◌==◌, nat_le, nat_lt, if◌then◌else◌}
use Rattle.std.specs.List.Sorted.{IsNonDecreasingBy}
use Rattle.std.proofs.Math.Bool.{and-false, or-true}
use Rattle.std.proofs.Math.Seq.{drop-cons}
use Rattle.std.proofs.lemmas.List.{drop_all}
use Rattle.std.proofs.lemmas.List.Sorted.{IsNonDecreasingBy-drop}
use Rattle.std.proofs.lemmas.Bool.{and_parts, cases_Bool, cases_eq, false_from_ne_true, leb-true, leb-false, le-leb, lt-leb, lt-ltb, le-ltb}
use Rattle.cell_refs.specs.Areas.{Area, bottom, right, within}
use Rattle.solver_names.specs.Counts.{bit, cell_of, has_column, in_column, is_covered, sum_below}
use Rattle.solver_names.proofs.Sums.{sum_add, sum_between, sum_same, sum_zero}

-- ---- the order of tops
abbrev pub AllFrom : ℕ → List Area → Type 0
AllFrom top [] = Unit {0}
AllFrom top (a ∷ rest) = (top ≤ a.top) × AllFrom top rest

abbrev pub AreInOrder : List Area → Type 0
AreInOrder [] = Unit {0}
AreInOrder (a ∷ rest) = AllFrom a.top rest × AreInOrder rest

all_from : (top : ℕ) (rest : List Area) → ((i : ℕ) (d : Area) → i < length rest → top ≤ (get_or rest i d).top) → AllFrom top rest
all_from top [] h = tt
all_from top (a ∷ rest) h = (h 0 a (omega arith), all_from top rest (λ i d below. h (suc i) d (omega (arith, below))))

pub in_order : (rest : List Area) → IsNonDecreasingBy (λ (a : Area). a.top) rest → AreInOrder rest
in_order [] h = tt
in_order (a ∷ rest) h = (all_from a.top rest (λ i d below. h 0 (suc i) d (omega arith) (omega (arith, below))), in_order rest (λ i j d low below. h (suc i) (suc j) d (omega (arith, low)) (omega (arith, below))))

-- ---- what an area has of a column
true_bits : (p x y z : Bool) → (p && z) ≡ true → (p && (x && (y && z))) ≡ (x && y)
true_bits false x y z h = absurd cc
true_bits true x y false h = absurd cc
true_bits true false y true h = refl
true_bits true true false true h = refl
true_bits true true true true h = refl

false_bits : (p x y z : Bool) → (p && z) ≡ false → (p && (x && (y && z))) ≡ false
false_bits false x y z h = refl
false_bits true false y z h = refl
false_bits true true false z h = refl
false_bits true true true z h = h

pub within_column : (a : Area) (sheet col row : ℕ) → has_column a sheet col ≡ true → within a (cell_of sheet col row) ≡ (nat_le a.top row && nat_le row (bottom a))
within_column a sheet col row h = true_bits (a.sheet.0 == sheet) (nat_le a.top row) (nat_le row (bottom a)) (nat_le a.left col && nat_le col (right a)) h

pub not_in_column : (a : Area) (sheet col row : ℕ) → has_column a sheet col ≡ false → within a (cell_of sheet col row) ≡ false
not_in_column a sheet col row h = false_bits (a.sheet.0 == sheet) (nat_le a.top row) (nat_le row (bottom a)) (nat_le a.left col && nat_le col (right a)) h

-- areas from a row on cover none before it
not_before : (top sheet col row : ℕ) (rest : List Area) → AllFrom top rest → row < top → is_covered rest (cell_of sheet col row) ≡ false
not_before top sheet col row [] h below = refl
not_before top sheet col row (a ∷ rest) h below = ap₂ (λ p q. p || q) here (not_before top sheet col row rest h.1 below)
  where
    here : within a (cell_of sheet col row) ≡ false
    here = elim (cases_Bool (has_column a sheet col)) [
      | inl has ↦ within_column a sheet col row has ∙ ap (λ p. p && nat_le row (bottom a)) (lt-leb a.top row (omega (arith, below, h.0)))
      | inr hasnt ↦ not_in_column a sheet col row hasnt
    ]

-- ---- rows that are counted
-- how many rows of a column the areas have, from a row on
abbrev pub rows_from : List Area → ℕ → ℕ → ℕ → ℕ
rows_from areas sheet col first = sum_below (λ row. bit (nat_le first row && is_covered areas (cell_of sheet col row))) 4096

-- a row is in the area's part or in what is counted behind it
split_row : (low top bottom row : ℕ) (v : Bool) → top ≤ bottom → (row < top → v ≡ false)
    → bit (nat_le low row && ((nat_le top row && nat_le row bottom) || v)) ≡ bit (nat_le (max low top) row && nat_lt row (max low (bottom + 1))) + bit (nat_le (max low (bottom + 1)) row && v)
split_row low top bottom row v order early = elim (cases_Bool (nat_le low row)) [
  | inr before ↦
      let less : row < low = leb-false low row before in
      ap (λ p. bit (p && ((nat_le top row && nat_le row bottom) || v))) before
      ∙ sym (ap₂ (λ p q. bit (p && nat_lt row (max low (bottom + 1))) + bit (q && v)) (lt-leb (max low top) row (omega (arith, less))) (lt-leb (max low (bottom + 1)) row (omega (arith, less))))
  | inl from ↦
      let least : low ≤ row = leb-true low row from in
      elim (cases_Bool (nat_le top row)) [
        | inr above ↦
            let less : row < top = leb-false top row above in
            ap₂ (λ p q. bit (p && ((q && nat_le row bottom) || v))) from above ∙ ap bit (early less)
            ∙ sym (ap₂ (λ p q. bit (p && nat_lt row (max low (bottom + 1))) + bit q) (lt-leb (max low top) row (omega (arith, less)))
            (ap (λ w. nat_le (max low (bottom + 1)) row && w) (early less) ∙ and-false (nat_le (max low (bottom + 1)) row)))
        | inl under ↦
            let first : top ≤ row = leb-true top row under in
            elim (cases_Bool (nat_le row bottom)) [
              | inl inside ↦
                  let last : row ≤ bottom = leb-true row bottom inside in
                  ap₂ (λ p q. bit (p && ((q && nat_le row bottom) || v))) from under ∙ ap (λ r. bit (r || v)) inside
                  ∙ sym (ap₂ (λ p q. bit (p && q) + bit (nat_le (max low (bottom + 1)) row && v)) (le-leb (max low top) row (omega (arith, least, first))) (lt-ltb row (max low (bottom + 1)) (omega (arith, last)))
                  ∙ ap (λ p. 1 + bit (p && v)) (lt-leb (max low (bottom + 1)) row (omega (arith, last))))
              | inr beyond ↦
                  let past : bottom < row = leb-false row bottom beyond in
                  ap₂ (λ p q. bit (p && ((q && nat_le row bottom) || v))) from under ∙ ap (λ r. bit (r || v)) beyond
                  ∙ sym (ap₂ (λ p q. bit (p && q) + bit (nat_le (max low (bottom + 1)) row && v)) (le-leb (max low top) row (omega (arith, least, first))) (le-ltb row (max low (bottom + 1)) (omega (arith, least, past)))
                  ∙ (ap (λ p. 0 + bit (p && v)) (le-leb (max low (bottom + 1)) row (omega (arith, least, past))) ∙ zero_more (bit v)))
            ]
      ]
]
  where
    zero_more : (n : ℕ) → 0 + n ≡ n
    zero_more n = omega arith

pub rows_in : (a : Area) (rest : List Area) (sheet col low : ℕ) → AllFrom a.top rest → has_column a sheet col ≡ true → bottom a < 4096 → low ≤ 4096
    → rows_from (a ∷ rest) sheet col low ≡ (max low (bottom a + 1) - max low a.top) + rows_from rest sheet col (max low (bottom a + 1))
rows_in a rest sheet col low order has last start =
    let high : ℕ = max low (bottom a + 1) in
    let parts : rows_from (a ∷ rest) sheet col low ≡ sum_below (λ row. bit (nat_le (max low a.top) row && nat_lt row (max low (bottom a + 1)))) 4096 + rows_from rest sheet col (max low (bottom a + 1)) =
    sum_add (λ row. bit (nat_le low row && is_covered (a ∷ rest) (cell_of sheet col row))) (λ row. bit (nat_le (max low a.top) row && nat_lt row (max low (bottom a + 1))))
    (λ row. bit (nat_le (max low (bottom a + 1)) row && is_covered rest (cell_of sheet col row))) 4096
    (λ row below. ap (λ w. bit (nat_le low row && (w || is_covered rest (cell_of sheet col row)))) (within_column a sheet col row has)
    ∙ split_row low a.top (bottom a) row (is_covered rest (cell_of sheet col row)) (omega arith) (not_before a.top sheet col row rest order)) in
    let own : sum_below (λ row. bit (nat_le (max low a.top) row && nat_lt row (max low (bottom a + 1)))) 4096 ≡ max low (bottom a + 1) - max low a.top =
    sum_between (max low a.top) (max low (bottom a + 1)) 4096 (omega arith) (omega (arith, last, start)) in
    parts ∙ ap (λ n. n + rows_from rest sheet col (max low (bottom a + 1))) own

pub rows_past : (a : Area) (rest : List Area) (sheet col low : ℕ) → has_column a sheet col ≡ false → rows_from (a ∷ rest) sheet col low ≡ rows_from rest sheet col low
rows_past a rest sheet col low hasnt =
    sum_same (λ row. bit (nat_le low row && is_covered (a ∷ rest) (cell_of sheet col row))) (λ row. bit (nat_le low row && is_covered rest (cell_of sheet col row))) 4096
    (λ row below. ap (λ w. bit (nat_le low row && (w || is_covered rest (cell_of sheet col row)))) (not_in_column a sheet col row hasnt))

pub rows_none : (sheet col low : ℕ) → rows_from [] sheet col low ≡ 0
rows_none sheet col low = sum_zero (λ row. bit (nat_le low row && false)) 4096 (λ row below. ap bit (and-false (nat_le low row)))

-- all rows
pub rows_all : (rest : List Area) (sheet col : ℕ) → rows_from rest sheet col 0 ≡ in_column rest sheet col
rows_all rest sheet col =
    sum_same (λ row. bit (nat_le 0 row && is_covered rest (cell_of sheet col row))) (λ row. bit (is_covered rest (cell_of sheet col row))) 4096
    (λ row below. ap (λ p. bit (p && is_covered rest (cell_of sheet col row))) (le-leb 0 row (omega arith)))

-- ---- the first row that isn't covered
-- the row behind the area's, where the row is in it
abbrev pub next_row : Area → ℕ → ℕ → ℕ → ℕ
next_row a sheet col row = if within a (cell_of sheet col row) then bottom a + 1 else row

-- and so on
abbrev pub free_from : List Area → ℕ → ℕ → ℕ → ℕ
free_from [] sheet col row = row
free_from (a ∷ rest) sheet col row = free_from rest sheet col (next_row a sheet col row)

-- a cell that is within an area
pub within_parts : (a : Area) (sheet col row : ℕ) → within a (cell_of sheet col row) ≡ true → (has_column a sheet col ≡ true) × (a.top ≤ row) × (row ≤ bottom a)
within_parts a sheet col row h =
    let own = and_parts (a.sheet.0 == sheet) _ h in
    let top = and_parts (nat_le a.top row) _ own.1 in
    let low = and_parts (nat_le row (bottom a)) _ top.1 in
    (ap₂ (λ p q. p && q) own.0 low.1, leb-true a.top row top.0, leb-true row (bottom a) low.0)

-- a row of the area's column that isn't within it
outside : (a : Area) (sheet col row : ℕ) → has_column a sheet col ≡ true → within a (cell_of sheet col row) ≡ false → a.top ≤ row → bottom a < row
outside a sheet col row has h under = elim (cases_Bool (nat_le row (bottom a))) [
  | inl inside ↦ let q : true ≡ false = sym (within_column a sheet col row has ∙ ap₂ (λ p r. p && r) (le-leb a.top row under) inside) ∙ h in absurd cc
  | inr beyond ↦ leb-false row (bottom a) beyond
]

cases_within : (a : Area) (sheet col row : ℕ) → ((within a (cell_of sheet col row) ≡ true) × (next_row a sheet col row ≡ bottom a + 1)) ⊎ ((within a (cell_of sheet col row) ≡ false) × (next_row a sheet col row ≡ row))
cases_within a sheet col row = elim (cases_Bool (within a (cell_of sheet col row))) [
  | inl inside ↦ inl (inside, ap (λ p. if p then bottom a + 1 else row) inside)
  | inr not_there ↦ inr (not_there, ap (λ p. if p then bottom a + 1 else row) not_there)
]

-- it isn't above the row
pub free_below : (rest : List Area) (sheet col row : ℕ) → row ≤ free_from rest sheet col row
free_below [] sheet col row = omega arith
free_below (a ∷ rest) sheet col row =
    let later : next_row a sheet col row ≤ free_from rest sheet col (next_row a sheet col row) = free_below rest sheet col (next_row a sheet col row) in
    elim (cases_within a sheet col row) [
      | inl jumps ↦ let parts = within_parts a sheet col row jumps.0 in omega (arith, jumps.1, parts.2, later)
      | inr stays ↦ omega (arith, stays.1, later)
    ]

-- the rows before it are covered
pub free_behind : (rest : List Area) (sheet col row other : ℕ) → row ≤ other → other < free_from rest sheet col row → is_covered rest (cell_of sheet col other) ≡ true
free_behind [] sheet col row other low below = absurd (omega (arith, low, below))
free_behind (a ∷ rest) sheet col row other low below = elim (cases_Bool (nat_le (next_row a sheet col row) other)) [
  | inl later ↦
      ap (λ q. within a (cell_of sheet col other) || q) (free_behind rest sheet col (next_row a sheet col row) other (leb-true (next_row a sheet col row) other later) below)
      ∙ or-true (within a (cell_of sheet col other))
  | inr soon ↦ ap (λ p. p || is_covered rest (cell_of sheet col other)) (jumped (cases_within a sheet col row) (leb-false (next_row a sheet col row) other soon))
]
  where
    jumped : ((within a (cell_of sheet col row) ≡ true) × (next_row a sheet col row ≡ bottom a + 1)) ⊎ ((within a (cell_of sheet col row) ≡ false) × (next_row a sheet col row ≡ row)) → other < next_row a sheet col row
        → within a (cell_of sheet col other) ≡ true
    jumped (inl jumps) under =
        let parts = within_parts a sheet col row jumps.0 in
        within_column a sheet col other parts.0 ∙ ap₂ (λ p q. p && q) (le-leb a.top other (omega (arith, low, parts.1))) (le-leb other (bottom a) (omega (arith, jumps.1, under)))
    jumped (inr stays) under = absurd (omega (arith, stays.1, under, low))

-- a row above all areas
free_early : (top sheet col row : ℕ) (rest : List Area) → AllFrom top rest → row < top → free_from rest sheet col row ≡ row
free_early top sheet col row [] h below = refl
free_early top sheet col row (a ∷ rest) h below =
    ap (λ p. free_from rest sheet col (if p then bottom a + 1 else row)) (above (cases_within a sheet col row)) ∙ free_early top sheet col row rest h.1 below
  where
    above : ((within a (cell_of sheet col row) ≡ true) × (next_row a sheet col row ≡ bottom a + 1)) ⊎ ((within a (cell_of sheet col row) ≡ false) × (next_row a sheet col row ≡ row)) → within a (cell_of sheet col row) ≡ false
    above (inl jumps) = let parts = within_parts a sheet col row jumps.0 in absurd (omega (arith, parts.1, below, h.0))
    above (inr stays) = stays.0

-- it isn't covered
pub free_open : (rest : List Area) (sheet col row : ℕ) → AreInOrder rest → is_covered rest (cell_of sheet col (free_from rest sheet col row)) ≡ false
free_open [] sheet col row h = refl
free_open (a ∷ rest) sheet col row h = ap₂ (λ p q. p || q) here (free_open rest sheet col (next_row a sheet col row) h.1)
  where
    by_case : ((within a (cell_of sheet col row) ≡ true) × (next_row a sheet col row ≡ bottom a + 1)) ⊎ ((within a (cell_of sheet col row) ≡ false) × (next_row a sheet col row ≡ row))
        → within a (cell_of sheet col (free_from rest sheet col (next_row a sheet col row))) ≡ true → ⊥
    by_case (inl jumps) inside =
        let later : next_row a sheet col row ≤ free_from rest sheet col (next_row a sheet col row) = free_below rest sheet col (next_row a sheet col row) in
        let parts = within_parts a sheet col (free_from rest sheet col (next_row a sheet col row)) inside in
        omega (arith, jumps.1, later, parts.2)
    by_case (inr stays) inside =
        let later : next_row a sheet col row ≤ free_from rest sheet col (next_row a sheet col row) = free_below rest sheet col (next_row a sheet col row) in
        let parts = within_parts a sheet col (free_from rest sheet col (next_row a sheet col row)) inside in
        elim (cases_Bool (nat_le a.top row)) [
          | inl under ↦
              let past : bottom a < row = outside a sheet col row parts.0 stays.0 (leb-true a.top row under) in
              omega (arith, stays.1, later, parts.2, past)
          | inr above ↦
              let less : row < a.top = leb-false a.top row above in
              let same : free_from rest sheet col (next_row a sheet col row) ≡ row = ap (free_from rest sheet col) stays.1 ∙ free_early a.top sheet col row rest h.0 less in
              omega (arith, same, parts.1, less)
        ]

    here : within a (cell_of sheet col (free_from rest sheet col (next_row a sheet col row))) ≡ false
    here = false_from_ne_true (within a (cell_of sheet col (free_from rest sheet col (next_row a sheet col row)))) (by_case (cases_within a sheet col row))

-- ---- steps of loops
module _ (rest : List Area) (i : ℕ) (a : Area) (sheet col : ℕ) (below : i < length rest) (is : a ≡ get_or rest i a) where
  left_here : drop i rest ≡ a ∷ drop (i + 1) rest
  left_here = let q : suc i ≡ i + 1 = omega arith in drop-cons rest i a below ∙ ap (λ y. y ∷ drop (suc i) rest) (sym is) ∙ ap (λ n. a ∷ drop n rest) q

  module _ (count low total : ℕ) (so_far : count + rows_from (drop i rest) sheet col low ≡ total) where
    -- an area that has the column
    pub area_counted : IsNonDecreasingBy (λ (b : Area). b.top) rest → has_column a sheet col ≡ true → bottom a < 4096 → low ≤ 4096 → count ≤ low → (start end more : ℕ) → start ≡ max low a.top → end ≡ max low (bottom a + 1)
        → more ≡ count + (end - start) → (more + rows_from (drop (i + 1) rest) sheet col end ≡ total) × (more ≤ end) × (end ≤ 4096)
    area_counted order has last within few start end more begins ends counts =
        let ordered : AreInOrder (drop i rest) = in_order (drop i rest) (IsNonDecreasingBy-drop (λ (b : Area). b.top) i rest order) in
        let tops : AllFrom a.top (drop (i + 1) rest) = (subst AreInOrder left_here ordered).0 in
        let rows = rows_in a (drop (i + 1) rest) sheet col low tops has last within in
        let same : count + rows_from (a ∷ drop (i + 1) rest) sheet col low ≡ total = ap (λ l. count + rows_from l sheet col low) (sym left_here) ∙ so_far in
        let left : rows_from (drop (i + 1) rest) sheet col end ≡ rows_from (drop (i + 1) rest) sheet col (max low (bottom a + 1)) = ap (rows_from (drop (i + 1) rest) sheet col) ends in
        (omega (arith, rows, same, left, begins, ends, counts), omega (arith, begins, ends, counts, few), omega (arith, ends, last, within))

    -- one that hasn't
    pub area_passed : has_column a sheet col ≡ false → (end more : ℕ) → end ≡ low → more ≡ count → more + rows_from (drop (i + 1) rest) sheet col end ≡ total
    area_passed hasnt end more ends counts =
        ap₂ (λ m n. m + rows_from (drop (i + 1) rest) sheet col n) counts ends ∙ ap (λ n. count + n) (sym (rows_past a (drop (i + 1) rest) sheet col low hasnt))
        ∙ ap (λ l. count + rows_from l sheet col low) (sym left_here) ∙ so_far

  pub free_step : (row next total : ℕ) → next ≡ next_row a sheet col row → free_from (drop i rest) sheet col row ≡ total → free_from (drop (i + 1) rest) sheet col next ≡ total
  free_step row next total e so_far = ap (free_from (drop (i + 1) rest) sheet col) e ∙ ap (λ l. free_from l sheet col row) (sym left_here) ∙ so_far

pub column_counted : (rest : List Area) (i sheet col count low total : ℕ) → length rest ≤ i → count + rows_from (drop i rest) sheet col low ≡ total → count ≡ total
column_counted rest i sheet col count low total all so_far =
    let none : rows_from (drop i rest) sheet col low ≡ 0 = ap (λ l. rows_from l sheet col low) (drop_all i rest all) ∙ rows_none sheet col low in
    omega (arith, none, so_far)

pub free_found : (rest : List Area) (i sheet col row total : ℕ) → length rest ≤ i → free_from (drop i rest) sheet col row ≡ total → row ≡ total
free_found rest i sheet col row total all so_far = ap (λ l. free_from l sheet col row) (sym (drop_all i rest all)) ∙ so_far

-- the least of the columns so far, with one more
module _ (areas : List Area) (other : Area) (col least free more : ℕ) (is : more ≡ min least free) where
  pub had_more : ((row before : ℕ) → other.top ≤ row → row < least → other.left ≤ before → before < col → is_covered areas (cell_of other.sheet.0 before row) ≡ true)
      → ((row : ℕ) → other.top ≤ row → row < free → is_covered areas (cell_of other.sheet.0 col row) ≡ true)
      → (row before : ℕ) → other.top ≤ row → row < more → other.left ≤ before → before < col + 1 → is_covered areas (cell_of other.sheet.0 before row) ≡ true
  had_more so_far own row before from under left right = elim (cases_eq before col) [
    | inl same ↦ ap (λ n. is_covered areas (cell_of other.sheet.0 n row)) same ∙ own row from (omega (arith, under, is))
    | inr differs ↦ so_far row before from (omega (arith, under, is)) left (omega (arith, right, differs))
  ]

  pub lacks_more : other.left ≤ col → (least ≤ bottom other → (before : ℕ) × (other.left ≤ before) × (before < col) × (is_covered areas (cell_of other.sheet.0 before least) ≡ false))
      → is_covered areas (cell_of other.sheet.0 col free) ≡ false
      → more ≤ bottom other → (before : ℕ) × (other.left ≤ before) × (before < col + 1) × (is_covered areas (cell_of other.sheet.0 before more) ≡ false)
  lacks_more left so_far own within = elim (cases_Bool (nat_le free least)) [
    | inl lower ↦
        let here : more ≡ free = omega (arith, is, leb-true free least lower) in
        (col, left, omega arith, ap (λ row. is_covered areas (cell_of other.sheet.0 col row)) here ∙ own)
    | inr higher ↦
        let there : more ≡ least = omega (arith, is, leb-false free least higher) in
        let before = so_far (omega (arith, there, within)) in
        (before.0, before.1, omega (arith, before.2), ap (λ row. is_covered areas (cell_of other.sheet.0 before.0 row)) there ∙ before.3)
  ]
