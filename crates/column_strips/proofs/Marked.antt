-- Marked cells with one more.
use Rattle.std.proofs.Common.{◌≡◌, ◌+◌, ◌<◌, ◌≤◌, Bool, true, false, cond, List, [], ◌∷◌, ◌++◌, length, refl, sym, ap, subst, ◌∙◌, arith}
use Rattle.std.specs.Prelude.{◌||◌, ◌==◌, ◌&&◌, Vec, vec_capacity}
use Rattle.std.specs.Cmp.{eq_by_cmp_equiv, tied_itself, unsigned_tied}
use Rattle.std.specs.FinSet as set
use Rattle.std.specs.Global.{Global}
use Rattle.std.specs.HashSet.{HashSet, spare}
use Rattle.std.specs.List.{IsDistinct, list_any}
use Rattle.std.specs.Ordering.{eq_by_cmp, is_eq, nat_cmp, ordering_then}
use Rattle.std.specs.declared.hash.FoldHasher.{FoldHasher}
use Rattle.std.specs.declared.hash.BuildHasherDefault.{BuildHasherDefault}
use Rattle.std.proofs.lemmas.List.{length_push}
use Rattle.std.proofs.lemmas.Map.Keys.{IsDistinct-push}
use Rattle.cell_refs.specs.Cells.{cell_cmp, is_same_cell}
use Rattle.cell_refs.specs.declared.cell.Cell.{Cell}
use Rattle.cell_refs.specs.declared.limits.TheConstants.{TEXTS}
use Rattle.cell_refs.proofs.Order.{cells_total, exact_cells}
use Rattle.column_strips.specs.Affected.{has_cell}
use Rattle.column_strips.specs.Marks.{AreMarks}
use Rattle.column_strips.proofs.Tests.{or_swap, tie_of_both}

-- whether cells are the same, by their parts and by their order
pub same_cells : (a b : Cell) → is_same_cell a b ≡ eq_by_cmp cell_cmp a b
same_cells a b = sym (
    tie_of_both (nat_cmp a.sheet.0 b.sheet.0) (ordering_then (nat_cmp a.row b.row) (nat_cmp a.col b.col))
    ∙ ap (λ t. t && is_eq (ordering_then (nat_cmp a.row b.row) (nat_cmp a.col b.col))) (unsigned_tied a.sheet.0 b.sheet.0)
    ∙ ap (λ t. (a.sheet.0 == b.sheet.0) && t)
    (tie_of_both (nat_cmp a.row b.row) (nat_cmp a.col b.col)
    ∙ ap (λ t. t && is_eq (nat_cmp a.col b.col)) (unsigned_tied a.row b.row) ∙ ap (λ t. (a.row == b.row) && t) (unsigned_tied a.col b.col)))

pub any_alike : {X : Type 0} (t u : X → Bool) (xs : List X) → ((x : X) → t x ≡ u x) → list_any t xs ≡ list_any u xs
any_alike t u [] h = refl
any_alike t u (x ∷ xs) h = ap (λ b. b || list_any t xs) (h x) ∙ ap (λ b. u x || b) (any_alike t u xs h)

pub any_push : {X : Type 0} (t : X → Bool) (xs : List X) (x : X) → list_any t (xs ++ x ∷ []) ≡ (t x || list_any t xs)
any_push t [] x = refl
any_push t (y ∷ xs) x = ap (λ b. t y || b) (any_push t xs x) ∙ or_swap (t y) (t x) (list_any t xs)

abbrev pub Seen : Type 0
Seen = HashSet Cell (BuildHasherDefault FoldHasher)

module _ (cells more : Vec Cell Global) (seen seen' : Seen) (c : Cell) (m : AreMarks cells seen) (absent : has_cell cells.items c ≡ false)
    (below : length cells.items < TEXTS + 1) (pushed : more.items ≡ cells.items ++ c ∷ []) (capacity : vec_capacity cells ≤ vec_capacity more)
    (places : spare seen ≤ spare seen' + 1) (one_added : length seen'.keys ≡ length seen.keys + 1) (added : (q : Cell) → list_any (eq_by_cmp cell_cmp q) seen'.keys ≡ (eq_by_cmp cell_cmp q c || list_any (eq_by_cmp cell_cmp q) seen.keys)) where
  longer : length more.items ≡ length cells.items + 1
  longer = ap length pushed ∙ length_push cells.items c

  counted : set.len (set.from_list {R = cell_cmp} (cells.items ++ c ∷ [])) ≡ length cells.items + 1
  counted =
      ap set.len (set.from_list_push cells_total exact_cells cells.items c)
      ∙ set.len-insert cells_total (set.from_list cells.items) c
      ∙ ap (λ b. cond b (set.len (set.from_list {R = cell_cmp} cells.items)) (set.len (set.from_list {R = cell_cmp} cells.items) + 1)) (set.contains-from_list cells_total cells.items c ∙ absent)
      ∙ ap (λ n. n + 1) m.once

  pub one_more_marked : AreMarks more seen'
  one_more_marked = record {
    few = omega (arith, longer, below);
    room = omega (arith, m.room, capacity);
    spare_places = omega (arith, m.spare_places, places, longer);
    as_many = omega (arith, one_added, m.as_many, longer);
    same = λ q. added q ∙ ap (λ b. eq_by_cmp cell_cmp q c || b) (m.same q) ∙ sym (any_push (eq_by_cmp cell_cmp q) cells.items c) ∙ ap (list_any (eq_by_cmp cell_cmp q)) (sym pushed);
    distinct = subst (IsDistinct (eq_by_cmp cell_cmp)) (sym pushed) (IsDistinct-push (eq_by_cmp_equiv cells_total) cells.items c m.distinct absent);
    once = ap (λ (xs : List Cell). set.len (set.from_list {R = cell_cmp} xs)) pushed ∙ counted ∙ sym longer;
  }

-- a list whose set is empty
pub none_listed : (cells : List Cell) → set.from_list {R = cell_cmp} cells ≡ set.empty → cells ≡ []
none_listed [] h = refl
none_listed (c ∷ cells) h =
    let a : set.contains (set.from_list {R = cell_cmp} (c ∷ cells)) c ≡ true
    = set.contains-from_list cells_total (c ∷ cells) c ∙ ap (λ o. is_eq o || list_any (eq_by_cmp cell_cmp c) cells) (tied_itself cells_total c) in
    let b : set.contains (set.from_list {R = cell_cmp} (c ∷ cells)) c ≡ false = ap (λ s. set.contains s c) h ∙ set.contains-empty cell_cmp c in
    cc

nothing_twice : IsDistinct (eq_by_cmp cell_cmp) []
unfolding IsDistinct
nothing_twice = tt

-- no cell is marked
pub none_marked : (cells : Vec Cell Global) (seen : Seen) → cells.items ≡ [] → seen.keys ≡ [] → TEXTS + 1 ≤ vec_capacity cells → TEXTS + 1 ≤ spare seen → AreMarks cells seen
none_marked cells seen empty none room places = record {
  few = omega (arith, ap length empty);
  room = room;
  spare_places = omega (arith, places);
  as_many = ap length none ∙ sym (ap length empty);
  same = λ c. ap (list_any (eq_by_cmp cell_cmp c)) none ∙ sym (ap (list_any (eq_by_cmp cell_cmp c)) empty);
  distinct = subst (IsDistinct (eq_by_cmp cell_cmp)) (sym empty) nothing_twice;
  once = ap (λ (xs : List Cell). set.len (set.from_list {R = cell_cmp} xs)) empty ∙ set.len-empty cell_cmp ∙ sym (ap length empty);
}

-- whether the table has a cell is whether the list has it
pub seen_is : (cells : Vec Cell Global) (seen : Seen) → AreMarks cells seen → (c : Cell) → list_any (is_same_cell c) seen.keys ≡ has_cell cells.items c
seen_is cells seen m c = any_alike (is_same_cell c) (eq_by_cmp cell_cmp c) seen.keys (same_cells c) ∙ m.same c

-- the table with one more cell, by the equality of cells and by their order
pub updated : (old new : List Cell) (c q : Cell) → list_any (is_same_cell q) new ≡ cond (is_same_cell c q) true (list_any (is_same_cell q) old)
    → list_any (eq_by_cmp cell_cmp q) new ≡ (eq_by_cmp cell_cmp q c || list_any (eq_by_cmp cell_cmp q) old)
updated old new c q h =
    sym (any_alike (is_same_cell q) (eq_by_cmp cell_cmp q) new (same_cells q)) ∙ h
    ∙ ap (λ b. cond b true (list_any (is_same_cell q) old)) (same_cells c q ∙ (eq_by_cmp_equiv cells_total).symm c q)
    ∙ ap (λ b. cond (eq_by_cmp cell_cmp q c) true b) (any_alike (is_same_cell q) (eq_by_cmp cell_cmp q) old (same_cells q)) ∙ either (eq_by_cmp cell_cmp q c) (list_any (eq_by_cmp cell_cmp q) old)
  where
    either : (b x : Bool) → cond b true x ≡ (b || x)
    either true x = refl
    either false x = refl
