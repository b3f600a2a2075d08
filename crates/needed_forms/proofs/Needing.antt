-- Needed places are the needed cells and the sides among the roots.
use Rattle.std.specs.Prelude.{Contains, ◌↔◌, filter}
use Rattle.std.proofs.Common.{◌≡◌, ◌⊎◌, inl, inr, refl, sym, ap, ◌∙◌, subst, Bool, true, false, cond, List, [], ◌∷◌, ◌++◌, map, get_or, take, length, ℕ, zero, suc, ◌+◌, ◌<◌, arith}
use Rattle.std.specs.Cmp.{eq_by_cmp_equiv}
use Rattle.std.specs.FinSet as set
use Rattle.std.specs.Ordering.{is_eq}
use Rattle.std.specs.declared.cmp.Ordering.{Ordering}
use Rattle.std.specs.declared.cmp.Ordering.TheVariants.{Less, Equal, Greater}
use Rattle.std.proofs.lemmas.List.{append_assoc}
use Rattle.std.proofs.lemmas.List.Elements.{All-contains, All-filter, All-contains_itself, Contains-append_cases, Contains-append_left, Contains-append_right, filter_more, filter_passes}
use Rattle.std.proofs.lemmas.Map.Views.{Contains-from_any, list_any-from_Contains}
use Rattle.cell_refs.specs.Cells.{cell_cmp}
use Rattle.cell_refs.specs.declared.cell.Cell.{Cell}
use Rattle.cell_refs.proofs.Order.{cells_total, exact_cells}
use Rattle.cell_refs.specs.declared.place.Place.{Place}
use Rattle.cell_refs.specs.declared.place.Place.TheVariants as place
use Rattle.form_needs.specs.Needed.{Asked, IsNeeded}
use Rattle.form_needs.specs.Needed as needed
use Rattle.needed_forms.specs.Firsts.{is_side}

-- ---- cells
equal_of : (r : Ordering) → is_eq r ≡ true → r ≡ Equal
equal_of Less e = cc
equal_of Equal e = refl
equal_of Greater e = cc

-- a set has the cells of a list that makes it
set_has : (cells : List Cell) (c : Cell) → Contains cells c → set.contains (set.from_list {R = cell_cmp} cells) c ≡ true
set_has cells c h = set.contains-from_list cells_total cells c ∙ list_any-from_Contains (eq_by_cmp_equiv cells_total) c cells h

list_has : (cells : List Cell) (c : Cell) → set.contains (set.from_list {R = cell_cmp} cells) c ≡ true → Contains cells c
list_has cells c h = Contains-from_any (λ x y t. exact_cells x y (equal_of (cell_cmp x y) t)) c cells (sym (set.contains-from_list cells_total cells c) ∙ h)

-- ---- places
abbrev pub cells_as_places : List Cell → List Place
cells_as_places cells = map place.Cell cells

-- the places of cells are these cells
cell_there : (cells : List Cell) (c : Cell) → Contains cells c → Contains (cells_as_places cells) (place.Cell c)
cell_there [] c h = absurd (omega (arith, h.1))
cell_there (b ∷ cells) c (zero, i, e) = (0, omega arith, ap place.Cell e)
cell_there (b ∷ cells) c (suc n, i, e) = let r = cell_there cells c (n, omega (arith, i), e) in (suc r.0, omega (arith, r.1), r.2)

there_cell : (cells : List Cell) (p : Place) → Contains (cells_as_places cells) p → (c : Cell) × (p ≡ place.Cell c) × Contains cells c
there_cell [] p h = absurd (omega (arith, h.1))
there_cell (b ∷ cells) p (zero, i, e) = (b, sym e, (0, omega arith, refl))
there_cell (b ∷ cells) p (suc n, i, e) =
    let r = there_cell cells p (n, omega (arith, i), e) in
    (r.0, r.1, (suc r.2.0, omega (arith, r.2.1), r.2.2))

-- a side stays
later : (b : Bool) (p : Place) (places : List Place) (r : Place) → Contains places r → Contains (cond b (p ∷ places) places) r
later true p places r h = (suc h.0, omega (arith, h.1), h.2)
later false p places r h = h

side_there : (roots : List Place) (r : Place) → Contains roots r → is_side r ≡ true → Contains (filter is_side roots) r
side_there [] r h t = absurd (omega (arith, h.1))
side_there (p ∷ roots) r (zero, i, e) t = subst (λ v. Contains (cond v (p ∷ filter is_side roots) (filter is_side roots)) r) (sym (ap is_side e ∙ t)) (0, omega arith, e)
side_there (p ∷ roots) r (suc n, i, e) t = later (is_side p) p (filter is_side roots) r (side_there roots r (n, omega (arith, i), e) t)

-- ---- needed places
module _ (q : Asked) (found : set.FinSet cell_cmp) (cells : List Cell) (right : (c : Cell) → (set.contains found c ≡ true) ↔ IsNeeded q (place.Cell c)) (same : set.from_list cells ≡ found) where
  abbrev all : List Place
  all = cells_as_places cells ++ filter is_side q.roots

  cell_needed : (c : Cell) → Contains cells c → IsNeeded q (place.Cell c)
  cell_needed c h = (right c).0 (ap (λ s. set.contains s c) (sym same) ∙ set_has cells c h)

  side_needed : (p : Place) → Contains q.roots p → is_side p ≡ true → IsNeeded q p
  side_needed (place.Cell c) i t = cc
  side_needed (place.Side k) i t = needed.root (place.Side k) i tt

  listed_needed : (p : Place) → Contains all p → IsNeeded q p
  listed_needed p h = by (Contains-append_cases (cells_as_places cells) (filter is_side q.roots) p h)
    where
      by : Contains (cells_as_places cells) p ⊎ Contains (filter is_side q.roots) p → IsNeeded q p
      by (inl h) = let r = there_cell cells p h in subst (IsNeeded q) (sym r.1) (cell_needed r.0 r.2)
      by (inr h) =
          side_needed p (All-contains (Contains q.roots) (filter is_side q.roots) p (All-filter is_side (Contains q.roots) q.roots (All-contains_itself q.roots)) h)
          (All-contains (λ r. is_side r ≡ true) (filter is_side q.roots) p (filter_passes is_side q.roots) h)

  -- a needed side is a root
  side_root : (p : Place) → IsNeeded q p → is_side p ≡ true → Contains q.roots p
  side_root _ (needed.root p i d) t = i
  side_root _ (needed.looked r b n l) t = cc

  needed_listed : (p : Place) → IsNeeded q p → Contains all p
  needed_listed (place.Cell c) n =
      Contains-append_left (cells_as_places cells) (filter is_side q.roots) (place.Cell c)
      (cell_there cells c (list_has cells c (ap (λ s. set.contains s c) same ∙ (right c).1 n)))
  needed_listed (place.Side k) n =
      Contains-append_right (cells_as_places cells) (filter is_side q.roots) (place.Side k) (side_there q.roots (place.Side k) (side_root (place.Side k) n refl) refl)

  pub needed_places : (p : Place) → Contains all p ↔ IsNeeded q p
  needed_places p = (listed_needed p, needed_listed p)

-- ---- the sides of some places, one after the other
pub one_side_more : (b : Bool) (start : List Place) (roots : List Place) (i : ℕ) (d : Place) (now after : List Place) → i < length roots → is_side (get_or roots i d) ≡ b
    → now ≡ start ++ filter is_side (take i roots) → after ≡ now ++ cond b (get_or roots i d ∷ []) [] → after ≡ start ++ filter is_side (take (i + 1) roots)
one_side_more b start roots i d now after within side before h =
    h ∙ ap (λ xs. xs ++ cond b (get_or roots i d ∷ []) []) before
    ∙ append_assoc start (filter is_side (take i roots)) (cond b (get_or roots i d ∷ []) [])
    ∙ ap (λ xs. start ++ xs) (ap (λ b. filter is_side (take i roots) ++ cond b (get_or roots i d ∷ []) []) (sym side) ∙ sym (filter_more is_side roots i d within))
