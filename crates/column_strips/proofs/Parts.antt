-- The strips that an area makes, column by column.
use Rattle.std.proofs.Common.{◌≡◌, ◌≢◌, ℕ, ◌+◌, ◌<◌, ◌≤◌, Bool, true, false, ◌&&◌, cond, [], refl, sym, ap, ◌∙◌, arith, inl, inr}
use Rattle.std.specs.Prelude.{◌||◌, ◌==◌, nat_le, nat_lt, not, slice_get}
use Rattle.std.specs.Cmp.{unsigned_tied}
use Rattle.std.specs.Ordering.{eq_by_cmp, is_eq, nat_cmp, ordering_then}
use Rattle.std.proofs.lemmas.Bool.{and_from, and_parts, cases_eq, cases_lt, eq-eqb, eqb-true, le-leb, leb-true, ltb-false, ltb-true}
use Rattle.cell_refs.specs.Areas.{Area, IsOnSheet, bottom, right}
use Rattle.cell_refs.specs.Cells.{cell_cmp}
use Rattle.cell_refs.specs.declared.limits.TheConstants.{COLUMNS}
use Rattle.column_strips.specs.declared.strip.Strip.{Strip}
use Rattle.column_strips.specs.Columns.{Columns, items_of, place_in, strips_at, strips_in}
use Rattle.column_strips.specs.Strips.{covers, has_strip, is_part, strip_cmp}
use Rattle.column_strips.proofs.Tests.{refused, tie_of_both}

pub same_strip : (s t : Strip) → eq_by_cmp strip_cmp s t ≡ (eq_by_cmp cell_cmp s.cell t.cell && ((s.top == t.top) && (s.bottom == t.bottom)))
same_strip s t =
    tie_of_both (cell_cmp s.cell t.cell) (ordering_then (nat_cmp s.top t.top) (nat_cmp s.bottom t.bottom))
    ∙ ap (λ b. eq_by_cmp cell_cmp s.cell t.cell && b)
    (tie_of_both (nat_cmp s.top t.top) (nat_cmp s.bottom t.bottom)
    ∙ ap (λ b. b && is_eq (nat_cmp s.bottom t.bottom)) (unsigned_tied s.top t.top) ∙ ap (λ b. (s.top == t.top) && b) (unsigned_tied s.bottom t.bottom))

-- what covers a column
pub covering : (area : Area) (sheet column : ℕ) → area.sheet.0 ≡ sheet → area.left ≤ column → column ≤ right area → covers area sheet column ≡ true
covering area sheet column own first last =
    and_from _ _ (eq-eqb area.sheet.0 sheet own) (and_from _ _ (le-leb area.left column first) (le-leb column (right area) last))

pub covered : (area : Area) (sheet column : ℕ) → covers area sheet column ≡ true → (area.sheet.0 ≡ sheet) × (area.left ≤ column) × (column ≤ right area)
covered area sheet column h =
    let a = and_parts (area.sheet.0 == sheet) (nat_le area.left column && nat_le column (right area)) h in
    let b = and_parts (nat_le area.left column) (nat_le column (right area)) a.1 in
    (eqb-true area.sheet.0 sheet a.0, leb-true area.left column b.0, leb-true column (right area) b.1)

in_range : (area : Area) (sheet column : ℕ) → IsOnSheet area → column < COLUMNS → place_in area.sheet.0 area.left ≤ place_in sheet column → place_in sheet column ≤ place_in area.sheet.0 (right area)
    → covers area sheet column ≡ true
in_range area sheet column on small first last =
    let last_column : area.left + area.further_columns < 1024 = on.last_column in
    let own : area.sheet.0 ≡ sheet = omega (arith, first, last, small, last_column) in
    covering area sheet column own (omega (arith, first, own)) (omega (arith, last, own))

not_both : (e x : Bool) → (e && (false && x)) ≡ false
not_both true x = refl
not_both false x = refl

-- the change at one place more
pub one_column : (change : Bool → Bool → Bool) (old now new : Columns) (first p : ℕ) (strip : Strip)
    → ((i : ℕ) (s : Strip) → first ≤ i → i < p → has_strip (strips_at now i) s ≡ change (eq_by_cmp strip_cmp s strip) (has_strip (strips_at old i) s))
    → ((i : ℕ) → p ≤ i → slice_get now i ≡ slice_get old i)
    → ((s : Strip) → has_strip (strips_at new p) s ≡ change (eq_by_cmp strip_cmp s strip) (has_strip (strips_at now p) s))
    → ((i : ℕ) → i ≢ p → slice_get new i ≡ slice_get now i)
    → (i : ℕ) (s : Strip) → first ≤ i → i < p + 1 → has_strip (strips_at new i) s ≡ change (eq_by_cmp strip_cmp s strip) (has_strip (strips_at old i) s)
one_column change old now new first p strip done behind here others i s a b =
    elim (cases_eq i p) as (λ _. has_strip (strips_at new i) s ≡ change (eq_by_cmp strip_cmp s strip) (has_strip (strips_at old i) s)) [
      | inl e ↦
          ap (λ k. has_strip (strips_at new k) s) e ∙ here s
          ∙ ap (λ o. change (eq_by_cmp strip_cmp s strip) (has_strip (items_of o) s)) (behind p (omega arith))
          ∙ ap (λ k. change (eq_by_cmp strip_cmp s strip) (has_strip (strips_at old k) s)) (sym e)
      | inr n ↦ ap (λ o. has_strip (items_of o) s) (others i n) ∙ done i s a (omega (arith, b, n))
    ]

-- a change of one strip in each column of an area: one is added, or one is taken away
module _ (change : Bool → Bool → Bool) (unchanged : (b : Bool) → change false b ≡ b) (area : Area) (on : IsOnSheet area) (strip : Strip)
    (top : strip.top ≡ area.top) (bottom_is : strip.bottom ≡ bottom area) (old new : Columns)
    (done : (i : ℕ) (s : Strip) → place_in area.sheet.0 area.left ≤ i → i < place_in area.sheet.0 (right area) + 1
    → has_strip (strips_at new i) s ≡ change (eq_by_cmp strip_cmp s strip) (has_strip (strips_at old i) s))
    (before : (i : ℕ) → i < place_in area.sheet.0 area.left → slice_get new i ≡ slice_get old i)
    (behind : (i : ℕ) → place_in area.sheet.0 (right area) + 1 ≤ i → slice_get new i ≡ slice_get old i) where
  its_own : (s : Strip) → eq_by_cmp strip_cmp s strip ≡ (eq_by_cmp cell_cmp s.cell strip.cell && ((s.top == area.top) && (s.bottom == bottom area)))
  its_own s = same_strip s strip
      ∙ ap (λ n. eq_by_cmp cell_cmp s.cell strip.cell && ((s.top == n) && (s.bottom == strip.bottom))) top
      ∙ ap (λ n. eq_by_cmp cell_cmp s.cell strip.cell && ((s.top == area.top) && (s.bottom == n))) bottom_is

  elsewhere : (i : ℕ) (s : Strip) → slice_get new i ≡ slice_get old i → has_strip (strips_at new i) s ≡ has_strip (strips_at old i) s
  elsewhere i s h = ap (λ o. has_strip (items_of o) s) h

  uncovered : (sheet column : ℕ) (s : Strip) (b : Bool) → covers area sheet column ≡ false → change (eq_by_cmp cell_cmp s.cell strip.cell && is_part area sheet column s) b ≡ b
  uncovered sheet column s b h =
      ap (λ t. change (eq_by_cmp cell_cmp s.cell strip.cell && (t && ((s.top == area.top) && (s.bottom == bottom area)))) b) h
      ∙ ap (λ t. change t b) (not_both (eq_by_cmp cell_cmp s.cell strip.cell) ((s.top == area.top) && (s.bottom == bottom area))) ∙ unchanged b

  at_column : (sheet column : ℕ) (s : Strip) → column < COLUMNS
      → has_strip (strips_at new (place_in sheet column)) s
      ≡ change (eq_by_cmp cell_cmp s.cell strip.cell && is_part area sheet column s) (has_strip (strips_at old (place_in sheet column)) s)
  at_column sheet column s small =
      elim (covers area sheet column) as (λ t. covers area sheet column ≡ t → has_strip (strips_at new (place_in sheet column)) s
      ≡ change (eq_by_cmp cell_cmp s.cell strip.cell && is_part area sheet column s) (has_strip (strips_at old (place_in sheet column)) s)) [
        | true ↦ λ e.
            let w = covered area sheet column e in
            done (place_in sheet column) s (omega (arith, w.0, w.1)) (omega (arith, w.0, w.2))
            ∙ ap (λ t. change t (has_strip (strips_at old (place_in sheet column)) s)) (its_own s)
            ∙ ap (λ t. change (eq_by_cmp cell_cmp s.cell strip.cell && (t && ((s.top == area.top) && (s.bottom == bottom area)))) (has_strip (strips_at old (place_in sheet column)) s)) (sym e)
        | false ↦ λ e. outside e ∙ sym (uncovered sheet column s (has_strip (strips_at old (place_in sheet column)) s) e)
      ] refl
    where
      outside : covers area sheet column ≡ false → has_strip (strips_at new (place_in sheet column)) s ≡ has_strip (strips_at old (place_in sheet column)) s
      outside e = elim (cases_lt (place_in sheet column) (place_in area.sheet.0 area.left)) as (λ _. has_strip (strips_at new (place_in sheet column)) s ≡ has_strip (strips_at old (place_in sheet column)) s) [
        | inl l ↦ elsewhere (place_in sheet column) s (before (place_in sheet column) l)
        | inr l ↦ elim (cases_lt (place_in area.sheet.0 (right area)) (place_in sheet column)) as (λ _. has_strip (strips_at new (place_in sheet column)) s ≡ has_strip (strips_at old (place_in sheet column)) s) [
          | inl m ↦ elsewhere (place_in sheet column) s (behind (place_in sheet column) (omega (arith, m)))
          | inr m ↦ let t = in_range area sheet column on small l m in cc
        ]
      ]

  pub everywhere : (sheet column : ℕ) (s : Strip)
      → has_strip (strips_in new sheet column) s
      ≡ change (eq_by_cmp cell_cmp s.cell strip.cell && is_part area sheet column s) (has_strip (strips_in old sheet column) s)
  everywhere sheet column s =
      elim (nat_lt column COLUMNS) as (λ t. nat_lt column COLUMNS ≡ t → has_strip (cond t (strips_at new (place_in sheet column)) []) s
      ≡ change (eq_by_cmp cell_cmp s.cell strip.cell && is_part area sheet column s) (has_strip (cond t (strips_at old (place_in sheet column)) []) s)) [
        | true ↦ λ e. at_column sheet column s (ltb-true column COLUMNS e)
        | false ↦ λ e. sym (uncovered sheet column s false (beyond (ltb-false column COLUMNS e)))
      ] refl
    where
      beyond : COLUMNS ≤ column → covers area sheet column ≡ false
      beyond h = refused _ (λ e. let w = covered area sheet column e in let last_column : area.left + area.further_columns < 1024 = on.last_column in omega (arith, w.2, h, last_column))

-- ---- one area after another
pub one_more_added : (e p q h : Bool) → ((e && p) || ((e && q) || h)) ≡ ((e && (q || p)) || h)
one_more_added true true true h = refl
one_more_added true true false h = refl
one_more_added true false true h = refl
one_more_added true false false h = refl
one_more_added false p q h = refl

pub one_more_dropped : (e p q h : Bool) → (not (e && p) && (not (e && q) && h)) ≡ (not (e && (q || p)) && h)
one_more_dropped true true true h = refl
one_more_dropped true true false h = refl
one_more_dropped true false true h = refl
one_more_dropped true false false h = refl
one_more_dropped false p q h = refl
