-- Formulas that are sorted, and the cells of an area.
use Rattle.std.proofs.Common.{◌≡◌, ◌≢◌, ℕ, ◌+◌, ◌<◌, ◌≤◌, true, false, List, refl, sym, ap, ◌∙◌, arith, inl, inr}
use Rattle.std.specs.Prelude.{Option, None, Some, slice_get}
use Rattle.std.specs.Cmp.{tied_itself}
use Rattle.std.specs.Ordering.{ordering_reverse}
use Rattle.std.specs.declared.cmp.Ordering.TheVariants.{Less, Greater}
use Rattle.std.proofs.lemmas.Option.{same_Some}
use Rattle.cell_refs.specs.Areas.{Area, within}
use Rattle.cell_refs.specs.declared.cell.Cell.{Cell}
use Rattle.cell_refs.specs.Cells.{cell_cmp}
use Rattle.cell_refs.proofs.Order.{cells_total}
use Rattle.column_strips.specs.declared.formulas.Formula.{Formula}
use Rattle.dep_table.specs.Edges.{reaches}
use Rattle.dep_table.specs.Formulas.{AreSorted}
use Rattle.dep_table.proofs.Orderings.{refused}
use Rattle.dep_table.proofs.Places.{same_or_not}

-- no cell comes before one that comes before it
pub not_both : (a b : Cell) → cell_cmp a b ≡ Less → cell_cmp b a ≢ Less
not_both a b h k = let e : cell_cmp a b ≡ Greater = cells_total.antisymm a b ∙ ap ordering_reverse k in cc

pub not_itself : (a : Cell) → cell_cmp a a ≢ Less
not_itself a h = let e = tied_itself cells_total a in cc

-- an area reaches no formula where no formula there is within it
unreached : (area : Area) (o : Option Formula) → ((f : Formula) → o ≡ Some f → within area f.cell ≡ true → ⊥) → reaches area o ≡ false
unreached area None h = refl
unreached area (Some f) h = refused (within area f.cell) (h f refl)

module _ (formulas : List Formula) (sorted : AreSorted formulas) (area : Area) (i : ℕ) (f : Formula) (at : slice_get formulas i ≡ Some f) where
  -- where all cells of the area come before a formula, none from it on is within the area
  pub none_behind : ((b : Cell) → within area b ≡ true → cell_cmp b f.cell ≡ Less) → (k : ℕ) → i ≤ k → reaches area (slice_get formulas k) ≡ false
  none_behind all k h = unreached area (slice_get formulas k) (λ g is w.
      elim (same_or_not k i) [
        | inl e ↦ let s : Some g ≡ Some f = sym is ∙ ap (slice_get formulas) e ∙ at in let c : g.cell ≡ f.cell = ap (λ (x : Formula). x.cell) (same_Some g f s) in not_itself f.cell (sym (ap (λ x. cell_cmp x f.cell) c) ∙ all g.cell w)
        | inr n ↦ not_both f.cell g.cell (sorted i k f g (omega arith) at is) (all g.cell w)
      ])

  -- none before the next cell of the area, behind a formula that isn't within it
  pub none_between : (t : Cell) (j : ℕ) → within area f.cell ≡ false
      → ((b : Cell) → within area b ≡ true → cell_cmp b t ≡ Less → cell_cmp b f.cell ≡ Less)
      → ((k : ℕ) (g : Formula) → i + 1 ≤ k → k < j → slice_get formulas k ≡ Some g → cell_cmp g.cell t ≡ Less)
      → (k : ℕ) → i ≤ k → k < j → reaches area (slice_get formulas k) ≡ false
  none_between t j outside first before k h l = unreached area (slice_get formulas k) (λ g is w.
      elim (same_or_not k i) [
        | inl e ↦ let s : Some g ≡ Some f = sym is ∙ ap (slice_get formulas) e ∙ at in let c : g.cell ≡ f.cell = ap (λ (x : Formula). x.cell) (same_Some g f s) in cc
        | inr n ↦ not_both f.cell g.cell (sorted i k f g (omega arith) at is) (first g.cell w (before k g (omega arith) l is))
      ])
