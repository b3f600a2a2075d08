-- The numbers of cells that are to be different, where there is no fault.
use Rattle.std.proofs.Common.{◌≡◌, ◌<◌, ◌+◌, ◌*◌, ◌/◌, ◌%◌, ℕ, zero, suc, Bool, true, false, cond, List, [], ◌∷◌, map, length, slice_get, Some, None, refl, sym, ap, ap₂, ◌∙◌, arith}
use Rattle.std.specs.Prelude.{filter}
use Rattle.std.specs.List.{AllByRecursion}
use Rattle.std.proofs.lemmas.List.FromFn.{get_or-map-range_with_len, length-map-range_with_len}
use Rattle.std.proofs.lemmas.Nat.{div-add-mod'}
use Rattle.std.proofs.lemmas.Option.{get_or_from_slice_get, slice_get_within}
use Rattle.cell_refs.specs.Areas.{Area, area_len, area_width, cell_at, cells_of}
use Rattle.cell_refs.specs.declared.cell.Cell.{Cell}
use Rattle.solver_names.specs.Constraints.{left_cells}
use Rattle.solver_names.specs.Faults.{decisions_of, faults, first}
use Rattle.solver_names.specs.Read.{Read}
use Rattle.solver_names.specs.Stated.{different, different_cells, is_code}
use Rattle.solver_names.specs.declared.constraints.Code.TheVariants as code
use Rattle.solver_names.specs.declared.constraints.Constraint.{Constraint}
use Rattle.solver_names.specs.declared.said.Said.{Said}
use Rattle.solver_names.specs.declared.said.Said.TheVariants.{Absent, Unformed, Says}
use Rattle.solver_names.proofs.NoFaults.{different_decided}

-- no item stands twice
abbrev pub AreDistinct : (X : Type 0) → List X → Type 0
AreDistinct X xs = (i j : ℕ) (x : X) → slice_get xs i ≡ Some x → slice_get xs j ≡ Some x → i ≡ j

-- ---- the cells of an area
own_place : (a : Area) (i j : ℕ) → cell_at a i ≡ cell_at a j → i ≡ j
own_place a i j e =
    let row : a.top + i / area_width a ≡ a.top + j / area_width a = ap (λ (c : Cell). c.row) e in
    let column : a.left + i % area_width a ≡ a.left + j % area_width a = ap (λ (c : Cell). c.col) e in
    let rows : i / area_width a ≡ j / area_width a = omega (arith, row) in
    let columns : i % area_width a ≡ j % area_width a = omega (arith, column) in
    sym (div-add-mod' i (area_width a)) ∙ ap₂ (λ q r. q * area_width a + r) rows columns ∙ div-add-mod' j (area_width a)

placed : (a : Area) (i : ℕ) (c : Cell) → slice_get (cells_of a) i ≡ Some c → cell_at a i ≡ c
placed a i c e =
    let below : i < area_len a = omega (arith, slice_get_within (cells_of a) i c e, length-map-range_with_len (cell_at a) 0 (area_len a)) in
    sym (get_or-map-range_with_len (cell_at a) 0 (area_len a) i i c below (omega arith)) ∙ get_or_from_slice_get (cells_of a) i c c e

left_distinct : (left : Said Area) → AreDistinct Cell (left_cells left)
left_distinct (Says a) i j c e f = own_place a i j (placed a i c e ∙ sym (placed a j c f))
left_distinct Absent i j c e f = absurd cc
left_distinct Unformed i j c e f = absurd cc

-- the constraints that ask for different cells
abbrev asking : List Constraint → List Constraint
asking cs = filter (λ (c : Constraint). is_code code.Different c.code) cs

all_distinct : (cs : List Constraint) → AllByRecursion (AreDistinct Cell) (different_cells cs)
all_distinct [] = tt
all_distinct (c ∷ cs) = by (is_code code.Different c.code) (all_distinct cs)
  where
    by : (b : Bool) → AllByRecursion (AreDistinct Cell) (different_cells cs) → AllByRecursion (AreDistinct Cell) (map (λ (d : Constraint). left_cells d.left) (cond b (c ∷ asking cs) (asking cs)))
    by true more = (left_distinct c.left, more)
    by false more = more

-- ---- the numbers of cells
module _ (ds : List Cell) where
  -- the cell of a number
  member : (group : List ℕ) (cells : List Cell) → map (slice_get ds) group ≡ map Some cells → (i n : ℕ) → slice_get group i ≡ Some n → (c : Cell) × (slice_get cells i ≡ Some c) × (slice_get ds n ≡ Some c)
  member [] cells e i n h = absurd cc
  member (m ∷ group) [] e i n h = absurd cc
  member (m ∷ group) (c ∷ cells) e zero n h =
      let same : m ≡ n = cc in
      let own : slice_get ds m ≡ Some c = cc in
      (c, refl, sym (ap (slice_get ds) same) ∙ own)
  member (m ∷ group) (c ∷ cells) e (suc i) n h = let more : map (slice_get ds) group ≡ map Some cells = cc in member group cells more i n h

  group_distinct : (group : List ℕ) (cells : List Cell) → map (slice_get ds) group ≡ map Some cells → AreDistinct Cell cells → AreDistinct ℕ group
  group_distinct group cells e own i j n h k =
      let a = member group cells e i n h in
      let b = member group cells e j n k in
      own i j a.0 a.1 (b.1 ∙ sym b.2 ∙ a.2)

  group_below : (group : List ℕ) (cells : List Cell) → map (slice_get ds) group ≡ map Some cells → AllByRecursion (λ j. j < length ds) group
  group_below [] cells e = tt
  group_below (m ∷ group) [] e = absurd cc
  group_below (m ∷ group) (c ∷ cells) e =
      let own : slice_get ds m ≡ Some c = cc in
      let more : map (slice_get ds) group ≡ map Some cells = cc in
      (slice_get_within ds m c own, group_below group cells more)

  groups_distinct : (groups : List (List ℕ)) (lefts : List (List Cell)) → map (map (slice_get ds)) groups ≡ map (map Some) lefts → AllByRecursion (AreDistinct Cell) lefts → AllByRecursion (AreDistinct ℕ) groups
  groups_distinct [] lefts e own = tt
  groups_distinct (g ∷ groups) [] e own = absurd cc
  groups_distinct (g ∷ groups) (l ∷ lefts) e own =
      let here : map (slice_get ds) g ≡ map Some l = cc in
      let more : map (map (slice_get ds)) groups ≡ map (map Some) lefts = cc in
      (group_distinct g l here own.0, groups_distinct groups lefts more own.1)

  groups_below : (groups : List (List ℕ)) (lefts : List (List Cell)) → map (map (slice_get ds)) groups ≡ map (map Some) lefts → AllByRecursion (AllByRecursion (λ j. j < length ds)) groups
  groups_below [] lefts e = tt
  groups_below (g ∷ groups) [] e = absurd cc
  groups_below (g ∷ groups) (l ∷ lefts) e =
      let here : map (slice_get ds) g ≡ map Some l = cc in
      let more : map (map (slice_get ds)) groups ≡ map (map Some) lefts = cc in
      (group_below g l here, groups_below groups lefts more)

-- ---- without a fault
module _ (r : Read) (none : first (faults r) ≡ None) where
  -- each number is that of a cell that is to be decided
  pub members_below : AllByRecursion (AllByRecursion (λ j. j < length (decisions_of r))) (different r.constraints (decisions_of r))
  members_below = groups_below (decisions_of r) (different r.constraints (decisions_of r)) (different_cells r.constraints) (different_decided r none)

  -- and no number stands twice in its list
  pub members_distinct : AllByRecursion (AreDistinct ℕ) (different r.constraints (decisions_of r))
  members_distinct = groups_distinct (decisions_of r) (different r.constraints (decisions_of r)) (different_cells r.constraints) (different_decided r none) (all_distinct r.constraints)
