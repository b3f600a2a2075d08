-- Cells of one column that are followed together.
use Rattle.std.proofs.Common.{◌≡◌, ℕ, ◌+◌, ◌-◌, ◌<◌, ◌≤◌, Bool, true, ◌&&◌, cond, List, ◌∷◌, ◌++◌, [], length, get_or, sym, ap, ◌∙◌, arith, ◌⊎◌, inl, inr}
use Rattle.std.specs.Prelude.{nat_le, Some, slice_get}
use Rattle.std.specs.Cmp.{tied_itself}
use Rattle.std.specs.Ordering.{eq_by_cmp, is_eq}
use Rattle.std.proofs.lemmas.Bool.{and_from, and_parts, cases_eq, le-leb, leb-true, or_cases, or_left, or_right}
use Rattle.std.proofs.lemmas.Option.{same_Some, slice_get-get_or, slice_get_within}
use Rattle.cell_refs.specs.Cells.{cell_cmp}
use Rattle.cell_refs.specs.declared.cell.Cell.{Cell}
use Rattle.cell_refs.proofs.Order.{cells_total, exact_cells}
use Rattle.column_strips.specs.declared.strip.Strip.{Strip}
use Rattle.column_strips.specs.Affected.{AreDone, IsAtOrReaches, IsSpreading, by_more, by_one, has_cell, refers_in}
use Rattle.column_strips.specs.Formulas.{References}
use Rattle.column_strips.specs.Rows.{AreAhead, in_column}
use Rattle.column_strips.specs.Strips.{AreStrips}
use Rattle.column_strips.proofs.Following.{marked_has}
use Rattle.column_strips.proofs.Referring.{leads, leads_is}
use Rattle.column_strips.proofs.Rising.{get_earlier, one_passes, passes_one}
use Rattle.column_strips.proofs.Spreading.{cell_there, has_there}
use Rattle.column_strips.proofs.Tests.{is_equal}

-- a cell of a column, by its row
pub is_in_column : (to d : Cell) → d.sheet.0 ≡ to.sheet.0 → d.col ≡ to.col → d ≡ in_column to d.row
is_in_column to d s c =
    ap (λ (n : ℕ). record { sheet = record { 0 = n }; row = d.row; col = d.col }) s
    ∙ ap (λ (n : ℕ). record { sheet = to.sheet; row = d.row; col = n }) c

-- ---- a list that got longer
module _ (found longer : List Cell) (kept : (p : ℕ) (c : Cell) → slice_get found p ≡ Some c → slice_get longer p ≡ Some c) where
  pub still_has : (c : Cell) → has_cell found c ≡ true → has_cell longer c ≡ true
  still_has c h = let r = cell_there found c h in has_there longer r.0 c (kept r.0 c r.1)

  -- what stands at a place of the longer list stood there
  pub stood_there : (p n : ℕ) (d t : Cell) → p ≤ n → slice_get found n ≡ Some t → slice_get longer p ≡ Some d → slice_get found p ≡ Some d
  stood_there p n d t l at h =
      let x = get_earlier found p n t l at in
      x.1 ∙ sym (kept p x.0 x.1) ∙ h

  pub no_shorter : (n : ℕ) (t : Cell) → slice_get found n ≡ Some t → length found ≤ length longer
  no_shorter n t at =
      let w = slice_get_within found n t at in
      let last : ℕ = length found - 1 in
      let x = end_there last (omega (arith, w)) in
      let b = slice_get_within longer last x.0 (kept last x.0 x.1) in
      omega (arith, b, w)
    where
      end_there : (k : ℕ) → k < length found → (x : Cell) × (slice_get found k ≡ Some x)
      end_there k h = (get_or found k t, slice_get-get_or found k t h)

  module _ (refers : Cell → Cell → Bool) (from : Cell) (next : ℕ) (to : Cell) (at : slice_get found next ≡ Some to) where
    -- what was sought and found before stays so, and the cell at the next place has been followed
    pub goes_further : IsSpreading refers from found next → ((c : Cell) → has_cell longer c ≡ true → IsAtOrReaches refers from c)
        → ((c : Cell) → refers c to ≡ true → has_cell longer c ≡ true) → IsSpreading refers from longer (next + 1)
    goes_further s sound followed = record {
      start = kept 0 from s.start;
      sound = sound;
      closed = λ p c d l h r. elim (cases_eq p next) as (λ _. has_cell longer c ≡ true) [
        | inl e ↦ followed c (ap (refers c) (same_Some to d (sym (kept next to at) ∙ ap (slice_get longer) (sym e) ∙ h)) ∙ r)
        | inr n ↦ still_has c (s.closed p c d (omega (arith, l, n)) (stood_there p next d to (omega (arith, l)) at h) r)
      ];
    }

    -- what was flagged before, or is flagged now, has been followed
    pub done_further : (done more : List Bool) → AreDone refers found done → length more ≤ length found
        → ((p : ℕ) (d : Cell) → slice_get more p ≡ Some true → slice_get found p ≡ Some d
        → (slice_get done p ≡ Some true) ⊎ ((c : Cell) → refers c d ≡ true → has_cell longer c ≡ true))
        → AreDone refers longer more
    done_further done more a few flagged = record {
      few = let n = no_shorter next to at in omega (arith, few, n);
      closed = λ p c d f h r.
          let inside = slice_get_within more p true f in
          let was : slice_get found p ≡ Some d = stood_at p d (omega (arith, inside, few)) h in
          elim (flagged p d f was) as (λ _. has_cell longer c ≡ true) [ inl old ↦ still_has c (a.closed p c d old was r) | inr all ↦ all c r ];
    }
      where
        stood_at : (p : ℕ) (d : Cell) → p < length found → slice_get longer p ≡ Some d → slice_get found p ≡ Some d
        stood_at p d l h = let g = slice_get-get_or found p d l in g ∙ sym (kept p (get_or found p d) g) ∙ h

-- ---- one more cell that is marked
module _ (refers : Cell → Cell → Bool) (from : Cell) where
  pub one_reaches : (c d : Cell) → refers c d ≡ true → IsAtOrReaches refers from d → IsAtOrReaches refers from c
  one_reaches c d r w =
      elim w as (λ _. IsAtOrReaches refers from c) [
        | inl e ↦ inr (by_one c (ap (refers c) (sym e) ∙ r))
        | inr m ↦ inr (by_more c d r m)
      ]

module _ (cells new : List Cell) (m : Cell) (marked : new ≡ cond (has_cell cells m) cells (cells ++ m ∷ [])) where
  pub marked_itself : has_cell new m ≡ true
  marked_itself = marked_has cells new m marked m ∙ or_right (has_cell cells m) (eq_by_cmp cell_cmp m m) (ap is_eq (tied_itself cells_total m))

  pub marked_still : (c : Cell) → has_cell cells c ≡ true → has_cell new c ≡ true
  marked_still c h = marked_has cells new m marked c ∙ or_left (has_cell cells c) (eq_by_cmp cell_cmp c m) h

  pub marked_which : (c : Cell) → has_cell new c ≡ true → (has_cell cells c ≡ true) ⊎ (c ≡ m)
  marked_which c h =
      elim (or_cases (has_cell cells c) (eq_by_cmp cell_cmp c m) (sym (marked_has cells new m marked c) ∙ h)) as (λ _. (has_cell cells c ≡ true) ⊎ (c ≡ m)) [
        | inl old ↦ inl old
        | inr e ↦ inr (exact_cells c m (is_equal _ e))
      ]

-- ---- strips and the rows that are sought
module _ (references : References) (to : Cell) (strips : List Strip) (are : AreStrips references to.sheet.0 to.col strips) where
  -- the formula of a strip refers to each cell of the strip's rows
  pub refers_to_row : (i : ℕ) (s : Strip) (r : ℕ) → slice_get strips i ≡ Some s → s.top ≤ r → r ≤ s.bottom → refers_in references s.cell (in_column to r) ≡ true
  refers_to_row i s r at top bottom =
      sym (leads_is references (in_column to r) strips are s.cell)
      ∙ passes_one (leads r s.cell) strips i s at
      (and_from _ _ (ap is_eq (tied_itself cells_total s.cell)) (and_from _ _ (le-leb s.top r top) (le-leb r s.bottom bottom)))

  -- a formula that refers to a cell of the column has a strip with its row
  pub strip_of_row : (c : Cell) (r : ℕ) → refers_in references c (in_column to r) ≡ true → (i : ℕ) × (s : Strip) × (slice_get strips i ≡ Some s) × (c ≡ s.cell) × (s.top ≤ r) × (r ≤ s.bottom)
  strip_of_row c r h =
      let p = one_passes (leads r c) strips (leads_is references (in_column to r) strips are c ∙ h) in
      let w = and_parts (eq_by_cmp cell_cmp c p.1.cell) (nat_le p.1.top r && nat_le r p.1.bottom) p.3 in
      let v = and_parts (nat_le p.1.top r) (nat_le r p.1.bottom) w.1 in
      (p.0, p.1, p.2, exact_cells c p.1.cell (is_equal _ w.0), leb-true p.1.top r v.0, leb-true r p.1.bottom v.1)

-- ---- at first there are no rows, and no flags
pub none_ahead : AreAhead []
none_ahead = record { sought = λ k v h. cc; first = λ k v r h. cc }

pub none_done : (refers : Cell → Cell → Bool) (found : List Cell) → AreDone refers found []
none_done refers found = record { few = omega arith; closed = λ p c d f h r. cc }
