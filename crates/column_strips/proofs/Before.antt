-- Formulas before a cell.
use Rattle.std.proofs.Common.{◌≡◌, ℕ, ◌≤◌, List, sym, ap, ◌∙◌, arith, inl, inr}
use Rattle.std.specs.Prelude.{Some, slice_get}
use Rattle.std.specs.declared.cmp.Ordering.TheVariants.{Less}
use Rattle.std.proofs.lemmas.Bool.{cases_eq}
use Rattle.std.proofs.lemmas.Option.{same_Some}
use Rattle.cell_refs.specs.declared.cell.Cell.{Cell}
use Rattle.cell_refs.specs.Cells.{cell_cmp}
use Rattle.cell_refs.proofs.Order.{cells_total}
use Rattle.column_strips.specs.declared.formulas.Formula.{Formula}
use Rattle.column_strips.specs.Formulas.{AreSorted}

-- each formula up to one that comes before a cell comes before it
pub all_before : (formulas : List Formula) → AreSorted formulas → (i : ℕ) (f : Formula) → slice_get formulas i ≡ Some f → (t : Cell) → cell_cmp f.cell t ≡ Less
    → (k : ℕ) (g : Formula) → k ≤ i → slice_get formulas k ≡ Some g → cell_cmp g.cell t ≡ Less
all_before formulas sorted i f at t less k g h is =
    elim (cases_eq k i) as (λ _. cell_cmp g.cell t ≡ Less) [
      | inl e ↦ let s : Some g ≡ Some f = sym is ∙ ap (slice_get formulas) e ∙ at in let c : g.cell ≡ f.cell = ap (λ (x : Formula). x.cell) (same_Some g f s) in ap (λ x. cell_cmp x t) c ∙ less
      | inr n ↦ cells_total.trans g.cell f.cell t (sorted k i g f (omega (arith, h, n)) is at) less
    ]
