-- What a search in the strips of a column finds.
use Rattle.std.proofs.Common.{◌≡◌, ℕ, ◌+◌, ◌<◌, ◌≤◌, true, false, ◌&&◌, List, length, get_or, sym, ap, ◌∙◌, arith, inl, inr}
use Rattle.std.specs.Prelude.{◌||◌, not, Some, slice_get}
use Rattle.std.specs.Cmp.{IsTotalOrder, alike_right, nat_cmp_total}
use Rattle.std.specs.List.{HoldsAt, insert, remove}
use Rattle.std.specs.List.Sorted.{IsNonDecreasingBy, IsPartitionPoint, IsSortedBy}
use Rattle.std.specs.Ordering.{eq_by_cmp, is_eq, is_lt, ordering_index, ordering_reverse}
use Rattle.std.specs.declared.cmp.Ordering.TheVariants.{Less, Equal, Greater}
use Rattle.std.proofs.lemmas.Bool.{cases_lt}
use Rattle.std.proofs.lemmas.Cmp.{on_total, then_total}
use Rattle.std.proofs.lemmas.List.Sorted.{searchable_from_sorted}
use Rattle.std.proofs.lemmas.Option.{get_or_from_slice_get, slice_get-get_or, slice_get_within}
use Rattle.cell_refs.proofs.Order.{cells_total}
use Rattle.column_strips.specs.declared.strip.Strip.{Strip}
use Rattle.column_strips.specs.Formulas.{IsRising}
use Rattle.column_strips.specs.Strips.{has_strip, strip_cmp}
use Rattle.column_strips.proofs.Rising.{any_remove, none_left, one_passes, passes_one, rising_insert, rising_remove}
use Rattle.column_strips.proofs.Tests.{is_equal, not_there, refused, taken_out, there_already}

pub strips_total : IsTotalOrder strip_cmp
strips_total =
    then_total (on_total (λ (s : Strip). s.cell) cells_total)
    (then_total (on_total (λ (s : Strip). s.top) nat_cmp_total) (on_total (λ (s : Strip). s.bottom) nat_cmp_total))

module _ (strips : List Strip) (up : IsRising strip_cmp strips) (strip : Strip) where
  in_order : IsSortedBy (λ a b. is_lt (strip_cmp a b)) strips
  in_order k d z h =
      let at = slice_get-get_or strips k d (omega (arith, h)) in
      let is = slice_get-get_or strips (k + 1) d h in
      let less = up k (k + 1) (get_or strips k d) (get_or strips (k + 1) d) (omega arith) at is in
      ap is_lt (strips_total.antisymm (get_or strips (k + 1) d) (get_or strips k d) ∙ ap ordering_reverse less)

  pub searchable : IsNonDecreasingBy (λ y. ordering_index (strip_cmp y strip)) strips
  searchable = searchable_from_sorted strips_total (λ (s : Strip). s) strips strip in_order

  module _ (p : ℕ) (found : IsPartitionPoint (λ y. strip_cmp y strip ≡ Less) (λ y. strip_cmp y strip ≡ Greater) strips p) where
    before : (k : ℕ) (y : Strip) → k < p → slice_get strips k ≡ Some y → strip_cmp y strip ≡ Less
    before k y l at = ap (λ z. strip_cmp z strip) (sym (get_or_from_slice_get strips k y y at)) ∙ found.0 k y (omega arith) l

    past : (k : ℕ) (y : Strip) → p ≤ k → slice_get strips k ≡ Some y → strip_cmp y strip ≡ Greater
    past k y l at = ap (λ z. strip_cmp z strip) (sym (get_or_from_slice_get strips k y y at)) ∙ found.1 k y l (slice_get_within strips k y at)

    behind : (k : ℕ) (y : Strip) → p ≤ k → slice_get strips k ≡ Some y → strip_cmp strip y ≡ Less
    behind k y l at = strips_total.antisymm strip y ∙ ap ordering_reverse (past k y l at)

    pub added_rises : p ≤ length strips → IsRising strip_cmp (insert strips p strip)
    added_rises h = rising_insert strip_cmp strips p strip h up before behind

    -- it isn't there
    absent : (s : Strip) → eq_by_cmp strip_cmp s strip ≡ true → has_strip strips s ≡ false
    absent s tie = refused _ (λ any.
        let r = one_passes (eq_by_cmp strip_cmp s) strips any in
        let same : strip_cmp strip r.1 ≡ Equal = sym (strips_total.congr s strip r.1 (is_equal _ tie)) ∙ is_equal _ r.3 in
        let back : strip_cmp r.1 strip ≡ Equal = strips_total.antisymm r.1 strip ∙ ap ordering_reverse same in
        either r.0 r.1 r.2 back)
      where
        either : (k : ℕ) (y : Strip) → slice_get strips k ≡ Some y → strip_cmp y strip ≡ Equal → ⊥
        either k y at e = elim (cases_lt k p) as (λ _. ⊥) [
          | inl l ↦ let less = before k y l at in cc
          | inr l ↦ let more = past k y l at in cc
        ]

    pub absent_has : (s : Strip) → has_strip strips s ≡ (not (eq_by_cmp strip_cmp s strip) && has_strip strips s)
    absent_has s = not_there (eq_by_cmp strip_cmp s strip) (has_strip strips s) (absent s)

  module _ (p : ℕ) (within : p < length strips) (found : HoldsAt (λ y. strip_cmp y strip ≡ Equal) strips p) where
    at : slice_get strips p ≡ Some (get_or strips p strip)
    at = slice_get-get_or strips p strip within

    alike : (s : Strip) → eq_by_cmp strip_cmp s (get_or strips p strip) ≡ eq_by_cmp strip_cmp s strip
    alike s = ap is_eq (alike_right strips_total (get_or strips p strip) strip s (found strip))

    pub present_has : (s : Strip) → has_strip strips s ≡ (eq_by_cmp strip_cmp s strip || has_strip strips s)
    present_has s = there_already (eq_by_cmp strip_cmp s strip) (has_strip strips s) (λ tie.
        passes_one (eq_by_cmp strip_cmp s) strips p (get_or strips p strip) at (alike s ∙ tie))

    pub dropped_rises : IsRising strip_cmp (remove strips p)
    dropped_rises = rising_remove strip_cmp strips p within up

    pub dropped_has : (s : Strip) → has_strip (remove strips p) s ≡ (not (eq_by_cmp strip_cmp s strip) && has_strip strips s)
    dropped_has s =
        taken_out (eq_by_cmp strip_cmp s strip) (has_strip (remove strips p) s)
        (λ tie. none_left strip_cmp strips_total strips p (get_or strips p strip) up at within s (alike s ∙ tie))
        ∙ ap (λ b. not (eq_by_cmp strip_cmp s strip) && b)
        (ap (λ b. b || has_strip (remove strips p) s) (sym (alike s)) ∙ sym (any_remove (eq_by_cmp strip_cmp s) strips p (get_or strips p strip) at))
