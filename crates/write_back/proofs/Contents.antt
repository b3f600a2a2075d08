-- The texts of cells after texts were put into some of them.
use Rattle.std.proofs.Common.{◌≡◌, ℕ, zero, suc, ◌+◌, Bool, true, false, cond, nat_lt, List, [], ◌∷◌, length, map, Option, Some, None, refl, sym, ap, ◌∙◌, arith}
use Rattle.std.specs.Prelude.{not, ◌&&◌, option_map, position, slice_get, zip}
use Rattle.std.specs.List.{prefix_len}
use Rattle.std.specs.FinMap.{get, get-insert, insert}
use Rattle.std.specs.Ordering.{eq_by_cmp, is_eq}
use Rattle.std.specs.declared.cmp.Ordering.{Ordering}
use Rattle.std.specs.declared.cmp.Ordering.TheVariants.{Less, Equal, Greater}
use Rattle.std.proofs.lemmas.Bool.Decides.{nat_tests}
use Rattle.std.proofs.lemmas.Cmp.{tied_itself}
use Rattle.fractions.specs.Rational.{ℚ}
use Rattle.cell_refs.specs.declared.cell.Cell.{Cell}
use Rattle.cell_refs.proofs.SameCells.{same_cells, same_itself}
use Rattle.cell_refs.specs.Cells.{cell_cmp, is_same_cell}
use Rattle.cell_refs.proofs.Order.{cells_total, exact_cells}
use Rattle.affine_forms.specs.Assigned.{assigned}
use Rattle.recalculation.specs.Entries.{Contents}
use Rattle.workbook.specs.Several.{with_texts}
use Rattle.write_back.specs.Writing.{AreDistinct}

-- ---- cells
equal_of : (r : Ordering) → is_eq r ≡ true → r ≡ Equal
equal_of Less e = absurd cc
equal_of Equal e = refl
equal_of Greater e = absurd cc

apart : (c a : Cell) → (c ≡ a → ⊥) → eq_by_cmp cell_cmp c a ≡ false
apart c a h = by (eq_by_cmp cell_cmp c a) refl
  where
    by : (t : Bool) → eq_by_cmp cell_cmp c a ≡ t → t ≡ false
    by false e = refl
    by true e = absurd (h (exact_cells c a (equal_of (cell_cmp c a) e)))

-- ---- the place of a cell in a list
abbrev placed : ℕ → ℕ → Bool → Option ℕ
placed n k t = cond (nat_lt (cond (not t) (1 + k) 0) n) (Some (cond (not t) (1 + k) 0)) None

position_first : {A : Type 0} (p : A → Bool) (x : A) (xs : List A) → p x ≡ true → position p (x ∷ xs) ≡ Some 0
position_first p x xs e = ap (placed (length (x ∷ xs)) (prefix_len (λ y. not (p y)) xs)) e ∙ ap (λ t. cond t (Some 0) None) (some (length xs))
  where
    some : (n : ℕ) → nat_lt 0 (suc n) ≡ true
    some n = grind (arith, nat_tests)

position_next : {A : Type 0} (p : A → Bool) (x : A) (xs : List A) → p x ≡ false → position p (x ∷ xs) ≡ option_map suc (position p xs)
position_next p x xs e = ap (placed (length (x ∷ xs)) (prefix_len (λ y. not (p y)) xs)) e ∙ shift (prefix_len (λ y. not (p y)) xs) (length xs)
  where
    above : (q n : ℕ) (t : Bool) → nat_lt q n ≡ t → nat_lt (1 + q) (suc n) ≡ t
    above q n true e = grind (arith, nat_tests)
    above q n false e = grind (arith, nat_tests)

    by : (q n : ℕ) (t : Bool) → nat_lt q n ≡ t → cond (nat_lt (1 + q) (suc n)) (Some (1 + q)) None ≡ option_map suc (cond t (Some q) None)
    by q n true e = ap (λ t. cond t (Some (1 + q)) None) (above q n true e) ∙ ap Some (omega arith)
    by q n false e = ap (λ t. cond t (Some (1 + q)) None) (above q n false e)

    shift : (q n : ℕ) → cond (nat_lt (1 + q) (suc n)) (Some (1 + q)) None ≡ option_map suc (cond (nat_lt q n) (Some q) None)
    shift q n = by q n (nat_lt q n) refl

position_none : {A : Type 0} (p : A → Bool) → position p [] ≡ None
position_none p = ap (λ t. cond t (Some 0) None) none
  where
    none : nat_lt 0 0 ≡ false
    none = grind (arith, nat_tests)

-- a cell without a place stands nowhere
absent : (cells : List Cell) (c : Cell) → position (is_same_cell c) cells ≡ None → (j : ℕ) → slice_get cells j ≡ Some c → ⊥
absent [] c e j h = absurd cc
absent (a ∷ cells) c e j h = by (λ k. absent cells c k) (is_same_cell c a) refl j h
  where
    behind : (o : Option ℕ) → option_map suc o ≡ None → o ≡ None
    behind None e = refl
    behind (Some j) e = absurd cc

    by : (position (is_same_cell c) cells ≡ None → (j : ℕ) → slice_get cells j ≡ Some c → ⊥) → (t : Bool) → is_same_cell c a ≡ t → (j : ℕ) → slice_get (a ∷ cells) j ≡ Some c → ⊥
    by later true is j h = let k = position_first (is_same_cell c) a cells is in cc
    by later false is zero h = let same : a ≡ c = cc in let z : true ≡ false = sym (same_itself c) ∙ ap (is_same_cell c) (sym same) ∙ is in cc
    by later false is (suc j) h = later (behind (position (is_same_cell c) cells) (sym (position_next (is_same_cell c) a cells is) ∙ e)) j h

-- ---- texts
-- a cell that stands nowhere among these keeps its text
untouched : (cells : List Cell) (texts : List (List ℕ)) (m : Contents) (c : Cell) → ((j : ℕ) → slice_get cells j ≡ Some c → ⊥) → get (with_texts m (zip cells texts)) c ≡ get m c
untouched [] texts m c none = refl
untouched (a ∷ cells) [] m c none = refl
untouched (a ∷ cells) (t ∷ texts) m c none =
    untouched cells texts (insert m a t) c (λ j h. none (suc j) h)
    ∙ get-insert cells_total m a t c
    ∙ ap (λ b. cond b (Some t) (get m c)) (apart c a (λ e. none 0 (ap Some (sym e))))

pub others_keep : (cells : List Cell) (texts : List (List ℕ)) (m : Contents) (c : Cell) → position (is_same_cell c) cells ≡ None → get (with_texts m (zip cells texts)) c ≡ get m c
others_keep cells texts m c e = untouched cells texts m c (absent cells c e)

less : (i j : ℕ) → suc i ≡ suc j → i ≡ j
less i j e = omega arith

-- a cell that stands in one place alone has that place
pub own_place : (cells : List Cell) (j : ℕ) (c : Cell) → AreDistinct cells → slice_get cells j ≡ Some c → position (is_same_cell c) cells ≡ Some j
own_place [] j c distinct h = absurd cc
own_place (a ∷ cells) zero c distinct h = let same : a ≡ c = cc in position_first (is_same_cell c) a cells (ap (is_same_cell c) same ∙ same_itself c)
own_place (a ∷ cells) (suc j) c distinct h = by (own_place cells j c (λ i k d e f. less i k (distinct (suc i) (suc k) d e f)) h) (is_same_cell c a) refl
  where
    by : position (is_same_cell c) cells ≡ Some j → (t : Bool) → is_same_cell c a ≡ t → position (is_same_cell c) (a ∷ cells) ≡ Some (suc j)
    by later true is = let k : 0 ≡ suc j = distinct 0 (suc j) c (ap Some (sym (same_cells c a is))) h in absurd (omega arith)
    by later false is = position_next (is_same_cell c) a cells is ∙ ap (option_map suc) later

abbrev There : (ℚ → List ℕ) → List Cell → List ℚ → Contents → Cell → ℚ → Type 0
There f cells numbers m c x = option_map (assigned numbers) (position (is_same_cell c) cells) ≡ Some x → get (with_texts m (zip cells (map f numbers))) c ≡ Some (f x)

-- a cell among them has the text of its number
pub number_there : (f : ℚ → List ℕ) (cells : List Cell) (numbers : List ℚ) (m : Contents) (c : Cell) (x : ℚ) → length numbers ≡ length cells → AreDistinct cells → There f cells numbers m c x
number_there f [] numbers m c x long distinct e = absurd (let k = position_none (is_same_cell c) in cc)
number_there f (a ∷ cells) [] m c x long distinct e = absurd (omega (arith, long))
number_there f (a ∷ cells) (n ∷ numbers) m c x long distinct e =
    by (number_there f cells numbers (insert m a (f n)) c x (less _ _ long) (λ i j d h k. less i j (distinct (suc i) (suc j) d h k))) (is_same_cell c a) refl
  where
    by_place : There f cells numbers (insert m a (f n)) c x → (o : Option ℕ) → position (is_same_cell c) cells ≡ o → option_map (assigned (n ∷ numbers)) (option_map suc o) ≡ Some x
        → get (with_texts (insert m a (f n)) (zip cells (map f numbers))) c ≡ Some (f x)
    by_place later None at h = absurd cc
    by_place later (Some j) at h = later (ap (option_map (assigned numbers)) at ∙ h)

    by : There f cells numbers (insert m a (f n)) c x → (t : Bool) → is_same_cell c a ≡ t → get (with_texts (insert m a (f n)) (zip cells (map f numbers))) c ≡ Some (f x)
    by later true is =
        let same : c ≡ a = same_cells c a is in
        let value : ◌≡◌ {A = Option ℚ} (Some n) (Some x) = sym (ap (option_map (assigned (n ∷ numbers))) (position_first (is_same_cell c) a cells is)) ∙ e in
        let here : n ≡ x = cc in
        untouched cells (map f numbers) (insert m a (f n)) c (λ j h. let k : 0 ≡ suc j = distinct 0 (suc j) a refl (h ∙ ap Some same) in omega arith)
        ∙ get-insert cells_total m a (f n) c
        ∙ ap (λ b. cond b (Some (f n)) (get m c)) (ap (eq_by_cmp cell_cmp c) (sym same) ∙ ap is_eq (tied_itself cells_total c))
        ∙ ap (λ y. Some (f y)) here
    by later false is = by_place later (position (is_same_cell c) cells) refl (ap (option_map (assigned (n ∷ numbers))) (sym (position_next (is_same_cell c) a cells is)) ∙ e)
