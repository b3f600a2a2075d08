-- What a sorted list of formulas says of a cell, with a formula more or one less.
use Rattle.std.proofs.Common.{◌≡◌, ℕ, zero, suc, ◌+◌, ◌<◌, Bool, true, false, cond, List, [], ◌∷◌, length, map, refl, sym, ap, ◌∙◌, arith}
use Rattle.std.specs.Prelude.{Option, None, Some, is_some, slice_get}
use Rattle.std.specs.Cmp.{tied_itself}
use Rattle.std.specs.FinMap.{find, get, get-from_entries, get-insert, get-remove, len, len-empty, len-insert, same_map}
use Rattle.std.specs.FinMap as finite
use Rattle.std.specs.List.{insert, remove}
use Rattle.std.specs.Ordering.{eq_by_cmp, is_eq}
use Rattle.std.specs.declared.cmp.Ordering.TheVariants.{Less, Equal}
use Rattle.std.proofs.lemmas.Option.{same_Some}
use Rattle.cell_refs.specs.Areas.{Area}
use Rattle.cell_refs.specs.declared.cell.Cell.{Cell}
use Rattle.cell_refs.specs.Cells.{cell_cmp}
use Rattle.cell_refs.proofs.Order.{cells_total, exact_cells}
use Rattle.column_strips.specs.declared.formulas.Formula.{Formula}
use Rattle.column_strips.specs.Formulas.{AreSorted, References, pair_of, references_in}
use Rattle.column_strips.proofs.Tests.{is_equal, refused}

abbrev pub is_at : Cell → Formula → Bool
is_at q f = eq_by_cmp cell_cmp q f.cell

pub same_cell : (q : Cell) (f : Formula) → is_at q f ≡ true → q ≡ f.cell
same_cell q f h = exact_cells q f.cell (is_equal _ h)

at_itself : (f : Formula) → is_at f.cell f ≡ true
at_itself f = ap is_eq (tied_itself cells_total f.cell)

-- one cell isn't at two formulas of which one comes before the other
pub not_at_both : (q : Cell) (f g : Formula) → cell_cmp f.cell g.cell ≡ Less → is_at q f ≡ true → is_at q g ≡ true → ⊥
not_at_both q f g less a b =
    let e : f.cell ≡ g.cell = sym (same_cell q f a) ∙ same_cell q g b in
    let tie : cell_cmp f.cell g.cell ≡ Equal = ap (cell_cmp f.cell) (sym e) ∙ tied_itself cells_total f.cell in cc

pub sorted_tail : (f : Formula) (formulas : List Formula) → AreSorted (f ∷ formulas) → AreSorted formulas
sorted_tail f formulas sorted i j g h l at is = sorted (suc i) (suc j) g h (omega (arith, l)) at is

pub sorted_head : (f : Formula) (formulas : List Formula) → AreSorted (f ∷ formulas) → (k : ℕ) (g : Formula) → slice_get formulas k ≡ Some g → cell_cmp f.cell g.cell ≡ Less
sorted_head f formulas sorted k g at = sorted zero (suc k) f g (omega arith) refl at

-- nothing is found at a cell at which no formula stands
pub none_found : (formulas : List Formula) (q : Cell) → ((k : ℕ) (g : Formula) → slice_get formulas k ≡ Some g → is_at q g ≡ false) → find cell_cmp q (map pair_of formulas) ≡ None
none_found [] q h = refl
none_found (f ∷ formulas) q h =
    ap (λ b. cond b (Some f.areas.items) (find cell_cmp q (map pair_of formulas))) (h zero f refl) ∙ none_found formulas q (λ k g at. h (suc k) g at)

-- what is found at the cell of a formula of the list
pub found_there : (formulas : List Formula) → AreSorted formulas → (p : ℕ) (f : Formula) → slice_get formulas p ≡ Some f → find cell_cmp f.cell (map pair_of formulas) ≡ Some f.areas.items
found_there [] sorted p f at = cc
found_there (x ∷ formulas) sorted zero f at =
    let e : x ≡ f = same_Some x f at in
    ap (λ (y : Formula). cond (is_at f.cell y) (Some y.areas.items) (find cell_cmp f.cell (map pair_of formulas))) e
    ∙ ap (λ b. cond b (Some f.areas.items) (find cell_cmp f.cell (map pair_of formulas))) (at_itself f)
found_there (x ∷ formulas) sorted (suc p) f at =
    ap (λ b. cond b (Some x.areas.items) (find cell_cmp f.cell (map pair_of formulas)))
    (refused (is_at f.cell x) (λ h. not_at_both f.cell x f (sorted_head x formulas sorted p f at) h (at_itself f)))
    ∙ found_there formulas (sorted_tail x formulas sorted) p f at

swap : (a b : Bool) (x y r : Option (List Area)) → (a ≡ true → b ≡ true → ⊥) → cond b x (cond a y r) ≡ cond a y (cond b x r)
swap true true x y r h = absurd (h refl refl)
swap true false x y r h = refl
swap false true x y r h = refl
swap false false x y r h = refl

pub find_insert : (formulas : List Formula) (p : ℕ) (f : Formula) (q : Cell) → ((k : ℕ) (g : Formula) → k < p → slice_get formulas k ≡ Some g → cell_cmp g.cell f.cell ≡ Less)
    → find cell_cmp q (map pair_of (insert formulas p f)) ≡ cond (is_at q f) (Some f.areas.items) (find cell_cmp q (map pair_of formulas))
find_insert formulas zero f q before = refl
find_insert [] (suc p) f q before = refl
find_insert (x ∷ formulas) (suc p) f q before =
    ap (cond (is_at q x) (Some x.areas.items)) (find_insert formulas p f q (λ k g l at. before (suc k) g (omega (arith, l)) at))
    ∙ swap (is_at q f) (is_at q x) (Some x.areas.items) (Some f.areas.items) (find cell_cmp q (map pair_of formulas))
    (λ a b. not_at_both q x f (before zero x (omega arith) refl) b a)

first_gone : (formulas : List Formula) (f : Formula) (q : Cell) → AreSorted (f ∷ formulas)
    → find cell_cmp q (map pair_of formulas) ≡ cond (is_at q f) None (cond (is_at q f) (Some f.areas.items) (find cell_cmp q (map pair_of formulas)))
first_gone formulas f q sorted =
    elim (is_at q f) as (λ b. is_at q f ≡ b → find cell_cmp q (map pair_of formulas) ≡ cond b None (cond b (Some f.areas.items) (find cell_cmp q (map pair_of formulas)))) [
      | true ↦ λ e. none_found formulas q (λ k g at. refused (is_at q g) (λ h. not_at_both q f g (sorted_head f formulas sorted k g at) e h))
      | false ↦ λ e. refl
    ] refl

pub find_remove : (formulas : List Formula) → AreSorted formulas → (p : ℕ) (f : Formula) (q : Cell) → slice_get formulas p ≡ Some f
    → find cell_cmp q (map pair_of (remove formulas p)) ≡ cond (is_at q f) None (find cell_cmp q (map pair_of formulas))
find_remove [] sorted p f q at = cc
find_remove (x ∷ formulas) sorted zero f q at =
    let e : x ≡ f = same_Some x f at in
    first_gone formulas x q sorted ∙ ap (λ (y : Formula). cond (is_at q y) None (cond (is_at q x) (Some x.areas.items) (find cell_cmp q (map pair_of formulas)))) e
find_remove (x ∷ formulas) sorted (suc p) f q at =
    ap (cond (is_at q x) (Some x.areas.items)) (find_remove formulas (sorted_tail x formulas sorted) p f q at)
    ∙ swap (is_at q f) (is_at q x) (Some x.areas.items) None (find cell_cmp q (map pair_of formulas))
    (λ a b. not_at_both q x f (sorted_head x formulas sorted p f at) b a)

-- ---- the same of the references
pub said_in : (formulas : List Formula) (q : Cell) → get (references_in formulas) q ≡ find cell_cmp q (map pair_of formulas)
said_in formulas q = get-from_entries cells_total (map pair_of formulas) q

pub references_insert : (formulas : List Formula) (p : ℕ) (f : Formula) → ((k : ℕ) (g : Formula) → k < p → slice_get formulas k ≡ Some g → cell_cmp g.cell f.cell ≡ Less)
    → references_in (insert formulas p f) ≡ finite.insert (references_in formulas) f.cell f.areas.items
references_insert formulas p f before = same_map cells_total exact_cells _ _ (λ q.
    said_in (insert formulas p f) q ∙ find_insert formulas p f q before ∙ ap (cond (is_at q f) (Some f.areas.items)) (sym (said_in formulas q))
    ∙ sym (get-insert cells_total (references_in formulas) f.cell f.areas.items q))

pub references_remove : (formulas : List Formula) → AreSorted formulas → (p : ℕ) (f : Formula) → slice_get formulas p ≡ Some f
    → references_in (remove formulas p) ≡ finite.remove (references_in formulas) f.cell
references_remove formulas sorted p f at = same_map cells_total exact_cells _ _ (λ q.
    said_in (remove formulas p) q ∙ find_remove formulas sorted p f q at ∙ ap (cond (is_at q f) None) (sym (said_in formulas q))
    ∙ sym (get-remove cells_total (references_in formulas) f.cell q))

-- nothing is taken from a cell that says nothing
pub nothing_taken : (references : References) (cell : Cell) → get references cell ≡ None → references ≡ finite.remove references cell
nothing_taken references cell none = same_map cells_total exact_cells _ _ (λ q.
    elim (eq_by_cmp cell_cmp q cell) as (λ b. eq_by_cmp cell_cmp q cell ≡ b → get references q ≡ cond b None (get references q)) [
      | true ↦ λ e. ap (get references) (exact_cells q cell (is_equal _ e)) ∙ none
      | false ↦ λ e. refl
    ] refl ∙ sym (get-remove cells_total references cell q))

-- what is put after what was there is taken is put in its place
pub put_again : (references : References) (cell : Cell) (areas : List Area) → finite.insert (finite.remove references cell) cell areas ≡ finite.insert references cell areas
put_again references cell areas = same_map cells_total exact_cells _ _ (λ q.
    get-insert cells_total (finite.remove references cell) cell areas q
    ∙ ap (cond (eq_by_cmp cell_cmp q cell) (Some areas)) (get-remove cells_total references cell q)
    ∙ twice (eq_by_cmp cell_cmp q cell) (Some areas) (get references q)
    ∙ sym (get-insert cells_total references cell areas q))
  where
    twice : (b : Bool) (x r : Option (List Area)) → cond b x (cond b None r) ≡ cond b x r
    twice true x r = refl
    twice false x r = refl

-- there are as many cells as formulas
pub as_many : (formulas : List Formula) → AreSorted formulas → len (references_in formulas) ≡ length formulas
as_many [] sorted = len-empty cell_cmp (List Area)
as_many (f ∷ formulas) sorted =
    let new : get (references_in formulas) f.cell ≡ None
    = said_in formulas f.cell ∙ none_found formulas f.cell (λ k g at. refused (is_at f.cell g) (λ h. not_at_both f.cell f g (sorted_head f formulas sorted k g at) (at_itself f) h)) in
    let e = len-insert cells_total (references_in formulas) f.cell f.areas.items
    ∙ ap (λ o. cond (is_some o) (len (references_in formulas)) (len (references_in formulas) + 1)) new in
    omega (arith, e, as_many formulas (sorted_tail f formulas sorted))
