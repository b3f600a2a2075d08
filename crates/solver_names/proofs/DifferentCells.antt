-- Cells that are to be different, and their numbers.
use Rattle.std.proofs.Common.{◌≡◌, ◌<◌, ◌+◌, ℕ, suc, Bool, true, false, cond, List, [], ◌∷◌, ◌++◌, map, get_or, length, take, Option, Some, None, refl, sym, ap, ap₂, ◌∙◌, arith, not}
use Rattle.std.specs.Prelude.{filter, flat_map, option_to_list, position, slice_get}
use Rattle.std.specs.List.{cons_option, list_any, range_with_len}
use Rattle.std.proofs.Math.Seq.{take-suc}
use Rattle.std.proofs.lemmas.List.{map-append}
use Rattle.std.proofs.lemmas.List.Elements.{filter-append, filter_map-append}
use Rattle.std.proofs.lemmas.List.FromFn.{map-range_with_len_more}
use Rattle.std.proofs.lemmas.List.Quantifiers.{position-Some}
use Rattle.std.proofs.lemmas.Option.{slice_get_read}
use Rattle.cell_refs.specs.Areas.{Area, cell_at}
use Rattle.cell_refs.specs.Cells.{is_same_cell}
use Rattle.cell_refs.specs.declared.cell.Cell.{Cell}
use Rattle.cell_refs.proofs.Positions.{none_passes}
use Rattle.solver_names.specs.Constraints.{is_among, left_cells}
use Rattle.solver_names.specs.Faults.{first, is_mark, no_decision, other_cell}
use Rattle.solver_names.specs.Stated.{different, different_cells, is_code, numbers_of}
use Rattle.solver_names.specs.declared.constraints.Code.{Code}
use Rattle.solver_names.specs.declared.constraints.Code.TheVariants as code
use Rattle.solver_names.specs.declared.constraints.Constraint.{Constraint}
use Rattle.solver_names.specs.declared.faults.Fault.{Fault}
use Rattle.solver_names.specs.declared.said.Said.{Said}
use Rattle.solver_names.specs.declared.said.Said.TheVariants.{Absent, Unformed, Says}
use Rattle.solver_names.proofs.Firsts.{none_empty, none_first, none_later}
use Rattle.cell_refs.proofs.SameCells.{same_cells}

-- ---- one more
-- the number of one cell more is put
pub one_number : (ds : List Cell) (a : Area) (i : ℕ) (cell : Cell) (old new : List ℕ) → cell ≡ cell_at a i → old ≡ numbers_of ds (map (cell_at a) (range_with_len 0 i)) → new ≡ old ++ numbers_of ds (cell ∷ [])
    → new ≡ numbers_of ds (map (cell_at a) (range_with_len 0 (i + 1)))
one_number ds a i cell old new is so_far put =
    put ∙ ap₂ (λ l c. l ++ numbers_of ds (c ∷ [])) so_far is
    ∙ sym (filter_map-append (λ (c : Cell). position (is_same_cell c) ds) (map (cell_at a) (range_with_len 0 i)) (cell_at a i ∷ []))
    ∙ ap (numbers_of ds) (sym (map-range_with_len_more (cell_at a) 0 i i (omega arith)))

abbrev asks : Constraint → Bool
asks c = is_code code.Different c.code

abbrev left_of : Constraint → List Cell
left_of c = left_cells c.left

joined : (xs ys : List Constraint) (ds : List Cell) → different (xs ++ ys) ds ≡ different xs ds ++ different ys ds
joined xs ys ds =
    ap (λ cs. map (numbers_of ds) (map left_of cs)) (filter-append asks xs ys) ∙ ap (map (numbers_of ds)) (map-append left_of (filter asks xs) (filter asks ys))
    ∙ map-append (numbers_of ds) (map left_of (filter asks xs)) (map left_of (filter asks ys))

-- the cells of one constraint more are put
pub one_group : (ds : List Cell) (xs : List Constraint) (i : ℕ) (x : Constraint) (old new : List (List ℕ)) → i < length xs → x ≡ get_or xs i x → old ≡ different (take i xs) ds
    → new ≡ old ++ different (x ∷ []) ds → new ≡ different (take (i + 1) xs) ds
one_group ds xs i x old new below is so_far put =
    let q : suc i ≡ i + 1 = omega arith in
    put ∙ ap (λ l. l ++ different (x ∷ []) ds) so_far ∙ sym (joined (take i xs) (x ∷ []) ds)
    ∙ ap (λ y. different (take i xs ++ y ∷ []) ds) is ∙ ap (λ l. different l ds) (sym (take-suc xs i x below) ∙ ap (λ n. take n xs) q)

-- ---- cells that are to be decided
-- the cell is that of its number
numbered : (ds : List Cell) (c : Cell) (o : Option ℕ) → position (is_same_cell c) ds ≡ o → is_among ds c ≡ true → (i : ℕ) × (o ≡ Some i) × (slice_get ds i ≡ Some c)
numbered ds c None e there = let absent : list_any (is_same_cell c) ds ≡ false = none_passes (is_same_cell c) ds e in let both : true ≡ false = sym there ∙ absent in absurd cc
numbered ds c (Some i) e there =
    let at = position-Some (is_same_cell c) ds i c e in
    (i, refl, slice_get_read ds (length ds) i c refl at.0 (same_cells c (get_or ds i c) at.1))

-- each cell is to be decided, so the numbers are those of all
all_numbered : (ds cells : List Cell) → other_cell ds cells ≡ None → map (slice_get ds) (numbers_of ds cells) ≡ map Some cells
all_numbered ds [] e = refl
all_numbered ds (c ∷ cells) e = by (is_among ds c) refl (all_numbered ds cells) e
  where
    by : (b : Bool) → is_among ds c ≡ b → (other_cell ds cells ≡ None → map (slice_get ds) (numbers_of ds cells) ≡ map Some cells) → cond (not b) (Some c) (other_cell ds cells) ≡ None
        → map (slice_get ds) (numbers_of ds (c ∷ cells)) ≡ map Some (c ∷ cells)
    by false other more h = absurd cc
    by true there more h =
        let at = numbered ds c (position (is_same_cell c) ds) refl there in
        ap (λ o. map (slice_get ds) (cons_option o (numbers_of ds cells))) at.1 ∙ ap₂ (λ o l. o ∷ l) at.2 (more h)

-- ---- constraints without a fault
different_marks : (s : Said Code) → is_code code.Different s ≡ true → is_mark s ≡ true
different_marks (Says code.Different) e = refl
different_marks (Says code.Whole) e = absurd cc
different_marks (Says code.Binary) e = absurd cc
different_marks (Says (code.Related r)) e = absurd cc
different_marks Absent e = absurd cc
different_marks Unformed e = absurd cc

none_other : (f : Cell → Fault) (marked : Bool) (o : Option Cell) → marked ≡ true → cond marked (map f (option_to_list o)) [] ≡ [] → o ≡ None
none_other f true None m e = refl
none_other f true (Some c) m e = absurd cc
none_other f false o m e = absurd cc

-- the cells of these numbers are the left cells of the constraints
pub all_decided : (ds : List Cell) (cs : List Constraint) → first (flat_map (no_decision ds) cs) ≡ None → map (map (slice_get ds)) (different cs ds) ≡ map (map Some) (different_cells cs)
all_decided ds [] e = refl
all_decided ds (c ∷ cs) e = by (asks c) refl (all_decided ds cs (none_later (no_decision ds c) (flat_map (no_decision ds) cs) e))
  where
    own : asks c ≡ true → map (slice_get ds) (numbers_of ds (left_of c)) ≡ map Some (left_of c)
    own is =
        all_numbered ds (left_of c)
        (none_other _ (is_mark c.code) (other_cell ds (left_of c)) (different_marks c.code is) (none_empty (no_decision ds c) (none_first (no_decision ds c) (flat_map (no_decision ds) cs) e)))

    by : (b : Bool) → asks c ≡ b → map (map (slice_get ds)) (different cs ds) ≡ map (map Some) (different_cells cs)
        → map (map (slice_get ds)) (map (numbers_of ds) (map left_of (cond b (c ∷ filter asks cs) (filter asks cs)))) ≡ map (map Some) (map left_of (cond b (c ∷ filter asks cs) (filter asks cs)))
    by false is others = others
    by true is others = ap₂ (λ x l. x ∷ l) (own is) others
