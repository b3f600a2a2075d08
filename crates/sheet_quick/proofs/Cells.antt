-- Texts and numbers of cells.
use Rattle.std.proofs.Common.{◌≡◌, ◌<◌, ℕ, zero, suc, arith, get_or, Bool, true, false, cond, List, [], ◌∷◌, length, Option, Some, None, refl, sym, ap, ◌∙◌}
use Rattle.std.specs.Prelude.{◌==◌, ◌&&◌, slice_get}
use Rattle.std.specs.FinMap.{get, get-insert, get-remove}
use Rattle.std.specs.Ordering.{eq_by_cmp, is_eq}
use Rattle.std.specs.declared.cmp.Ordering.{Ordering}
use Rattle.std.specs.declared.cmp.Ordering.TheVariants.{Less, Equal, Greater}
use Rattle.std.proofs.lemmas.Bool.{and_parts, eqb-true, eq-eqb}
use Rattle.std.proofs.lemmas.Cmp.{tied_itself}
use Rattle.std.proofs.lemmas.List.Quantifiers.{position-Some}
use Rattle.fractions.specs.Rational.{ℚ}
use Rattle.cell_refs.specs.Cells.{cell_cmp, is_same_cell}
use Rattle.cell_refs.specs.declared.cell.Cell.{Cell}
use Rattle.cell_refs.proofs.Order.{cells_total, exact_cells}
use Rattle.form_extraction.specs.Places.{numbered_in}
use Rattle.recalculation.specs.Entries.{Contents}
use Rattle.workbook.specs.State.{with_text}
use Rattle.sheet_quick.specs.Giving.{number_given}

-- ---- the same cell
pub one_cell : (a b : Cell) → is_same_cell a b ≡ true → a ≡ b
one_cell a b h =
    let sheets = and_parts (a.sheet.0 == b.sheet.0) ((a.row == b.row) && (a.col == b.col)) h in
    let others = and_parts (a.row == b.row) (a.col == b.col) sheets.1 in
    λ i. record { sheet = record { 0 = eqb-true a.sheet.0 b.sheet.0 sheets.0 i }; row = eqb-true a.row b.row others.0 i; col = eqb-true a.col b.col others.1 i }

same_itself : (a : Cell) → is_same_cell a a ≡ true
same_itself a = λ i. (eq-eqb a.sheet.0 a.sheet.0 refl i) && ((eq-eqb a.row a.row refl i) && (eq-eqb a.col a.col refl i))

-- two that stand at one place are the same
pub same_cells : (a b : Cell) → ◌≡◌ {A = Option Cell} (Some a) (Some b) → is_same_cell a b ≡ false → ⊥
same_cells a b e h = let same : a ≡ b = cc in let both : true ≡ false = sym (same_itself a) ∙ ap (is_same_cell a) same ∙ h in cc

equal_of : (r : Ordering) → is_eq r ≡ true → r ≡ Equal
equal_of Less e = absurd cc
equal_of Equal e = refl
equal_of Greater e = absurd cc

-- the test by order is that of the same cell
pub ordered : (a c : Cell) (b : Bool) → is_same_cell a c ≡ b → eq_by_cmp cell_cmp c a ≡ b
ordered a c true e = ap (eq_by_cmp cell_cmp c) (one_cell a c e) ∙ ap is_eq (tied_itself cells_total c)
ordered a c false e = by (eq_by_cmp cell_cmp c a) refl
  where
    by : (t : Bool) → eq_by_cmp cell_cmp c a ≡ t → t ≡ false
    by false h = refl
    by true h =
        let same : c ≡ a = exact_cells c a (equal_of (cell_cmp c a) h) in
        let both : true ≡ false = sym (same_itself a) ∙ ap (is_same_cell a) (sym same) ∙ e in
        cc

-- and back
pub same_by_order : (a c : Cell) → eq_by_cmp cell_cmp c a ≡ true → c ≡ a
same_by_order a c e = exact_cells c a (equal_of (cell_cmp c a) e)

-- a cell that is one of two that aren't one is not the other
pub other_by : (a b c : Cell) → is_same_cell a b ≡ false → c ≡ a → is_same_cell b c ≡ false
other_by a b c other e = by (is_same_cell b c) refl
  where
    by : (t : Bool) → is_same_cell b c ≡ t → t ≡ false
    by false h = refl
    by true h =
        let same : a ≡ b = sym e ∙ sym (one_cell b c h) in
        let both : true ≡ false = sym (same_itself a) ∙ ap (is_same_cell a) same ∙ other in
        cc

-- ---- numbers in lists
pub at_place : (cells : List Cell) (k : ℕ) (d : Cell) → k < length cells → slice_get cells k ≡ Some (get_or cells k d)
at_place [] k d h = absurd (omega (arith, h))
at_place (c ∷ cells) zero d h = refl
at_place (c ∷ cells) (suc k) d h = at_place cells k d (omega (arith, h))

-- a cell with a number stands there
pub own_item : (cells : List Cell) (c : Cell) (k : ℕ) → numbered_in cells c ≡ Some k → (k < length cells) × (get_or cells k c ≡ c)
own_item cells c k e = let p = position-Some (is_same_cell c) cells k c e in (p.0, sym (one_cell c (get_or cells k c) p.1))

pub own_number : (cells : List Cell) (c : Cell) (k : ℕ) → numbered_in cells c ≡ Some k → (k < length cells) × (slice_get cells k ≡ Some c)
own_number cells c k e = let p = own_item cells c k e in (p.0, at_place cells k c p.0 ∙ ap Some p.1)

-- ---- texts
-- a cell has the text that is put into it, and another one has its own
pub text_here : (contents : Contents) (cell c : Cell) (text : List ℕ) (x : ℚ) → number_given text ≡ Some x → is_same_cell cell c ≡ true → get (with_text contents cell text) c ≡ Some text
text_here contents cell c [] x given same = cc
text_here contents cell c (b ∷ text) x given same =
    get-insert cells_total contents cell (b ∷ text) c ∙ ap (λ t. cond t (Some (b ∷ text)) (get contents c)) (ordered cell c true same)

pub text_elsewhere : (contents : Contents) (cell c : Cell) (text : List ℕ) → is_same_cell cell c ≡ false → get (with_text contents cell text) c ≡ get contents c
text_elsewhere contents cell c [] other =
    get-remove cells_total contents cell c ∙ ap (λ t. cond t None (get contents c)) (ordered cell c false other)
text_elsewhere contents cell c (b ∷ text) other =
    get-insert cells_total contents cell (b ∷ text) c ∙ ap (λ t. cond t (Some (b ∷ text)) (get contents c)) (ordered cell c false other)
