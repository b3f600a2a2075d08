-- The cells of a set, as a list.
use Rattle.std.proofs.Common.{◌≡◌, ℕ, zero, suc, ◌+◌, ◌<◌, ◌≤◌, Bool, true, false, List, [], ◌∷◌, ◌++◌, flat_map, length, nat_eq, take, Option, Some, None, refl, sym, ap, subst, ◌∙◌, arith}
use Rattle.std.specs.Prelude.{◌||◌, slice_get, slice_index_or}
use Rattle.std.specs.FinSet as set
use Rattle.std.specs.List.{list_any}
use Rattle.std.proofs.lemmas.Bool.{eqb-true}
use Rattle.std.proofs.lemmas.Bool.Decides.{nat_tests}
use Rattle.std.proofs.lemmas.List.{append-nil, append_assoc}
use Rattle.std.specs.Ordering.{eq_by_cmp, is_eq}
use Rattle.std.specs.Cmp.{eq_by_cmp_equiv}
use Rattle.cell_refs.specs.declared.cell.Cell.{Cell}
use Rattle.cell_refs.specs.Cells.{cell_cmp}
use Rattle.cell_refs.proofs.Order.{cells_total, exact_cells}
use Rattle.cell_refs.specs.Areas.{Area, cells_of}
use Rattle.recalculation.proofs.Lists.{either_first, either_second}
use Rattle.recalculation.specs.Entries.{Book}
use Rattle.recalc.specs.declared.rows.Row.{Row}
use Rattle.recalc.specs.Rows.{AreRows, row_at}
use Rattle.recalc.proofs.Walking.{equal_of}

-- a cell is equal to itself
itself : (a : Cell) → is_eq (cell_cmp a a) ≡ true
itself a = (eq_by_cmp_equiv cells_total).refl a

-- an equal cell stands at a place
place_of : (cells : List Cell) (a : Cell) → list_any (eq_by_cmp cell_cmp a) cells ≡ true → (p : ℕ) × (p < length cells) × (slice_get cells p ≡ Some a)
place_of [] a h = absurd cc
place_of (c ∷ cells) a h = by (place_of cells a) (is_eq (cell_cmp a c)) refl h
  where
    by : (list_any (eq_by_cmp cell_cmp a) cells ≡ true → (p : ℕ) × (p < length cells) × (slice_get cells p ≡ Some a)) → (b : Bool) → is_eq (cell_cmp a c) ≡ b
        → (b || list_any (eq_by_cmp cell_cmp a) cells) ≡ true → (p : ℕ) × (p < length (c ∷ cells)) × (slice_get (c ∷ cells) p ≡ Some a)
    by rest true e h = (0, omega arith, ap Some (sym (exact_cells a c (equal_of (cell_cmp a c) e))))
    by rest false e h = let r = rest h in (suc r.0, omega (arith, r.1), r.2)

equal_at : (cells : List Cell) (p : ℕ) (a : Cell) → slice_get cells p ≡ Some a → list_any (eq_by_cmp cell_cmp a) cells ≡ true
equal_at [] p a h = absurd cc
equal_at (c ∷ cells) zero a h = either_first (is_eq (cell_cmp a c)) (list_any (eq_by_cmp cell_cmp a) cells) (subst (λ d. is_eq (cell_cmp d c) ≡ true) (front c a h) (itself c))
  where
    front : (b d : Cell) → Some b ≡ Some d → b ≡ d
    front b d e = ap (λ (o : Option Cell). elim o as (λ _. Cell) [ Some x ↦ x | None ↦ b ]) e
equal_at (c ∷ cells) (suc p) a h = either_second (is_eq (cell_cmp a c)) (list_any (eq_by_cmp cell_cmp a) cells) (equal_at cells p a h)

pub member_place : (cells : List Cell) (a : Cell) → set.contains (set.from_list {R = cell_cmp} cells) a ≡ true → (p : ℕ) × (p < length cells) × (slice_get cells p ≡ Some a)
member_place cells a h = place_of cells a (sym (set.contains-from_list cells_total cells a) ∙ h)

pub place_member : (cells : List Cell) (p : ℕ) (a : Cell) → slice_get cells p ≡ Some a → set.contains (set.from_list {R = cell_cmp} cells) a ≡ true
place_member cells p a h = set.contains-from_list cells_total cells a ∙ equal_at cells p a h

-- ---- places
pub place_within : {A : Type 0} (xs : List A) (p : ℕ) (a : A) → slice_get xs p ≡ Some a → p < length xs
place_within [] p a h = absurd cc
place_within (x ∷ xs) zero a h = omega arith
place_within (x ∷ xs) (suc p) a h = omega (arith, place_within xs p a h)

pub none_before : {A : Type 0} (p : ℕ) → p < 0 → A
none_before p less = absurd (omega (arith, less))

-- what holds before a place and at it holds before the next
pub before_or_at : (P : ℕ → Type 0) (n p : ℕ) → p < n + 1 → ((q : ℕ) → q < n → P q) → P n → P p
before_or_at P n p less before at = by (nat_eq p n) refl
  where
    by : (b : Bool) → nat_eq p n ≡ b → P p
    by true e = subst P (sym (eqb-true p n e)) at
    by false e = before p (grind (arith, nat_tests, e, less))

pub same_cell : (a b : Cell) → Some a ≡ Some b → a ≡ b
same_cell a b e = ap (λ (o : Option Cell). elim o as (λ _. Cell) [ Some c ↦ c | None ↦ a ]) e

-- without entries all rows are right
pub no_rows : (book : Book) (keeps_looks : Bool) (rows : List (Cell × Row)) → rows ≡ [] → AreRows book keeps_looks rows
no_rows book keeps_looks rows none = record { right = λ a row e. absurd (let h : None ≡ Some row = sym (ap (λ r. row_at r a) none) ∙ e in cc) }

-- ---- areas
next : (i : ℕ) → suc i + 1 ≡ suc (i + 1)
next i = omega arith

pub one_more_area : (areas : List Area) (i : ℕ) (d : Area) → i < length areas → flat_map cells_of (take (i + 1) areas) ≡ flat_map cells_of (take i areas) ++ cells_of (slice_index_or areas i d)
one_more_area [] i d h = absurd (omega (arith, h))
one_more_area (a ∷ areas) zero d h = append-nil (cells_of a)
one_more_area (a ∷ areas) (suc i) d h =
    ap (λ n. flat_map cells_of (take n (a ∷ areas))) (next i) ∙ ap (λ l. cells_of a ++ l) (one_more_area areas i d (omega (arith, h))) ∙ sym (append_assoc (cells_of a) (flat_map cells_of (take i areas)) (cells_of (slice_index_or areas i d)))

pub all_taken : (areas : List Area) (i : ℕ) → length areas ≤ i → take i areas ≡ areas
all_taken [] zero h = refl
all_taken [] (suc i) h = refl
all_taken (a ∷ areas) zero h = absurd (omega (arith, h))
all_taken (a ∷ areas) (suc i) h = ap (λ l. a ∷ l) (all_taken areas i (omega (arith, h)))
