-- The strips of a column that have a row are those of the formulas that refer to the cell there.
use Rattle.std.proofs.Common.{◌≡◌, ℕ, Bool, true, false, ◌&&◌, List, refl, sym, ap, ◌∙◌}
use Rattle.std.specs.Prelude.{◌==◌, nat_le, Option, None, Some, slice_get}
use Rattle.std.specs.Cmp.{tied_itself}
use Rattle.std.specs.FinMap.{get}
use Rattle.std.specs.List.{list_any}
use Rattle.std.specs.Ordering.{eq_by_cmp, is_eq}
use Rattle.std.proofs.lemmas.Bool.{and_from, and_parts, eq-eqb, eqb-true}
use Rattle.cell_refs.specs.Areas.{Area, bottom, right, within}
use Rattle.cell_refs.specs.Cells.{cell_cmp}
use Rattle.cell_refs.specs.declared.cell.Cell.{Cell}
use Rattle.cell_refs.proofs.Order.{cells_total, exact_cells}
use Rattle.column_strips.specs.declared.strip.Strip.{Strip}
use Rattle.column_strips.specs.Affected.{refers_in}
use Rattle.column_strips.specs.Formulas.{References, refers_by}
use Rattle.column_strips.specs.Strips.{AreStrips, covers, is_part, is_part_of_any, strip_cmp}
use Rattle.column_strips.proofs.Parts.{same_strip}
use Rattle.column_strips.proofs.Rising.{one_passes, passes_one}
use Rattle.column_strips.proofs.Searched.{strips_total}
use Rattle.column_strips.proofs.Tests.{is_equal}

-- strips that tie are one
exact_strips : (s t : Strip) → eq_by_cmp strip_cmp s t ≡ true → s ≡ t
exact_strips s t h =
    let w = and_parts _ _ (sym (same_strip s t) ∙ h) in
    let v = and_parts (s.top == t.top) (s.bottom == t.bottom) w.1 in
    ap (λ (c : Cell). record { cell = c; top = s.top; bottom = s.bottom }) (exact_cells s.cell t.cell (is_equal _ w.0))
    ∙ ap (λ (n : ℕ). record { cell = t.cell; top = n; bottom = s.bottom }) (eqb-true s.top t.top v.0)
    ∙ ap (λ (n : ℕ). record { cell = t.cell; top = t.top; bottom = n }) (eqb-true s.bottom t.bottom v.1)

-- a strip is one of a cell's, and has a row
abbrev pub leads : ℕ → Cell → Strip → Bool
leads row c s = eq_by_cmp cell_cmp c s.cell && (nat_le s.top row && nat_le row s.bottom)

both_ways : (x y : Bool) → (x ≡ true → y ≡ true) → (y ≡ true → x ≡ true) → x ≡ y
both_ways true y f g = sym (f refl)
both_ways false true f g = g refl
both_ways false false f g = refl

-- a cell within an area: the area covers its column and has its row
within_parts : (a : Area) (d : Cell) → within a d ≡ true → (covers a d.sheet.0 d.col ≡ true) × (nat_le a.top d.row ≡ true) × (nat_le d.row (bottom a) ≡ true)
within_parts a d h =
    let x = and_parts (a.sheet.0 == d.sheet.0) (nat_le a.top d.row && (nat_le d.row (bottom a) && (nat_le a.left d.col && nat_le d.col (right a)))) h in
    let y = and_parts (nat_le a.top d.row) (nat_le d.row (bottom a) && (nat_le a.left d.col && nat_le d.col (right a))) x.1 in
    let z = and_parts (nat_le d.row (bottom a)) (nat_le a.left d.col && nat_le d.col (right a)) y.1 in
    (and_from _ _ x.0 z.1, y.0, z.0)

parts_within : (a : Area) (d : Cell) → covers a d.sheet.0 d.col ≡ true → nat_le a.top d.row ≡ true → nat_le d.row (bottom a) ≡ true → within a d ≡ true
parts_within a d c t b =
    let w = and_parts (a.sheet.0 == d.sheet.0) (nat_le a.left d.col && nat_le d.col (right a)) c in
    and_from _ _ w.0 (and_from _ _ t (and_from _ _ b w.1))

-- the areas that make a strip
areas_there : (o : Option (List Area)) (sheet column : ℕ) (s : Strip) → is_part_of_any o sheet column s ≡ true → (areas : List Area) × (o ≡ Some areas) × (list_any (λ area. is_part area sheet column s) areas ≡ true)
areas_there None sheet column s h = cc
areas_there (Some areas) sheet column s h = (areas, refl, h)

referred : (o : Option (List Area)) (d : Cell) → refers_by o d ≡ true → (areas : List Area) × (o ≡ Some areas) × (list_any (λ area. within area d) areas ≡ true)
referred None d h = cc
referred (Some areas) d h = (areas, refl, h)

module _ (references : References) (to : Cell) (strips : List Strip) (are : AreStrips references to.sheet.0 to.col strips) where
  -- a strip of the list is kept for a formula
  pub strip_kept : (i : ℕ) (s : Strip) → slice_get strips i ≡ Some s → is_part_of_any (get references s.cell) to.sheet.0 to.col s ≡ true
  strip_kept i s at = sym (are.exact s) ∙ passes_one (eq_by_cmp strip_cmp s) strips i s at (ap is_eq (tied_itself strips_total s))

  refers_to : (c : Cell) → list_any (leads to.row c) strips ≡ true → refers_in references c to ≡ true
  refers_to c h =
      let r = one_passes (leads to.row c) strips h in
      let w = and_parts (eq_by_cmp cell_cmp c r.1.cell) (nat_le r.1.top to.row && nat_le to.row r.1.bottom) r.3 in
      let v = and_parts (nat_le r.1.top to.row) (nat_le to.row r.1.bottom) w.1 in
      let a = areas_there (get references r.1.cell) to.sheet.0 to.col r.1 (strip_kept r.0 r.1 r.2) in
      let p = one_passes (λ area. is_part area to.sheet.0 to.col r.1) a.0 a.2 in
      let q = and_parts (covers p.1 to.sheet.0 to.col) ((r.1.top == p.1.top) && (r.1.bottom == bottom p.1)) p.3 in
      let u = and_parts (r.1.top == p.1.top) (r.1.bottom == bottom p.1) q.1 in
      let top = ap (λ n. nat_le n to.row) (sym (eqb-true r.1.top p.1.top u.0)) ∙ v.0 in
      let low = ap (λ n. nat_le to.row n) (sym (eqb-true r.1.bottom (bottom p.1) u.1)) ∙ v.1 in
      ap (λ x. refers_by (get references x) to) (exact_cells c r.1.cell (is_equal _ w.0)) ∙ ap (λ o. refers_by o to) a.1
      ∙ passes_one (λ area. within area to) a.0 p.0 p.1 p.2 (parts_within p.1 to q.0 top low)

  leads_from : (c : Cell) → refers_in references c to ≡ true → list_any (leads to.row c) strips ≡ true
  leads_from c h =
      let a = referred (get references c) to h in
      let p = one_passes (λ area. within area to) a.0 a.2 in
      let w = within_parts p.1 to p.3 in
      let s : Strip = record { cell = c; top = p.1.top; bottom = bottom p.1 } in
      let part : is_part p.1 to.sheet.0 to.col s ≡ true = and_from _ _ w.0 (and_from _ _ (eq-eqb p.1.top p.1.top refl) (eq-eqb (bottom p.1) (bottom p.1) refl)) in
      let any : is_part_of_any (get references c) to.sheet.0 to.col s ≡ true = ap (λ o. is_part_of_any o to.sheet.0 to.col s) a.1
      ∙ passes_one (λ area. is_part area to.sheet.0 to.col s) a.0 p.0 p.1 p.2 part in
      let r = one_passes (eq_by_cmp strip_cmp s) strips (are.exact s ∙ any) in
      passes_one (leads to.row c) strips r.0 s (r.2 ∙ ap Some (sym (exact_strips s r.1 r.3)))
      (and_from _ _ (ap is_eq (tied_itself cells_total c)) (and_from _ _ w.1 w.2))

  pub leads_is : (c : Cell) → list_any (leads to.row c) strips ≡ refers_in references c to
  leads_is c = both_ways _ _ (refers_to c) (leads_from c)
