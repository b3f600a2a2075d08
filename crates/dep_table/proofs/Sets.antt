-- Sets of cells as lists of their cells.
use Rattle.std.proofs.Common.{◌≡◌, Bool, true, false, cond, List, refl, sym, ap, ◌∙◌, ◌⊎◌, inl, inr}
use Rattle.std.specs.Prelude.{◌||◌}
use Rattle.std.specs.BTreeMap.{is_at}
use Rattle.std.specs.Cmp.{eq_by_cmp_equiv, tied_itself}
use Rattle.std.specs.FinSet as set
use Rattle.std.specs.List.{list_any}
use Rattle.std.specs.Ordering.{eq_by_cmp, is_eq}
use Rattle.cell_refs.specs.declared.cell.Cell.{Cell}
use Rattle.cell_refs.specs.Cells.{cell_cmp}
use Rattle.cell_refs.proofs.Order.{cells_total, exact_cells}
use Rattle.dep_table.proofs.Orderings.{is_equal}

either : (b c : Bool) → cond b true c ≡ (b || c)
either true c = refl
either false c = refl

-- a list that has one cell more makes the set that has it more
pub one_more : (ks ls : List Cell) (k : Cell) → ((q : Cell) → list_any (is_at (cell_cmp q)) ls ≡ cond (is_at (cell_cmp k) q) true (list_any (is_at (cell_cmp q)) ks))
    → set.from_list {R = cell_cmp} ls ≡ set.insert (set.from_list ks) k
one_more ks ls k h = set.same_set cells_total exact_cells _ _ (λ q.
    set.contains-from_list cells_total ls q ∙ h q ∙ either (is_at (cell_cmp k) q) _
    ∙ (λ i. (eq_by_cmp_equiv cells_total).symm k q i || sym (set.contains-from_list cells_total ks q) i)
    ∙ sym (set.contains-insert cells_total (set.from_list ks) k q))

-- a set with one cell more has that cell and those that it had
pub had : (s : set.FinSet cell_cmp) (k q : Cell) → set.contains (set.insert s k) q ≡ true → (q ≡ k) ⊎ (set.contains s q ≡ true)
had s k q h =
    elim (eq_by_cmp cell_cmp q k) as (λ t. eq_by_cmp cell_cmp q k ≡ t → (t || set.contains s q) ≡ true → (q ≡ k) ⊎ (set.contains s q ≡ true)) [
      | true ↦ λ e h. inl (exact_cells q k (is_equal _ e))
      | false ↦ λ e h. inr h
    ] refl (sym (set.contains-insert cells_total s k q) ∙ h)

pub has_new : (s : set.FinSet cell_cmp) (k : Cell) → set.contains (set.insert s k) k ≡ true
has_new s k = set.contains-insert cells_total s k k ∙ ap (λ t. t || set.contains s k) (ap is_eq (tied_itself cells_total k))

pub has_old : (s : set.FinSet cell_cmp) (k q : Cell) → set.contains s q ≡ true → set.contains (set.insert s k) q ≡ true
has_old s k q h = set.contains-insert cells_total s k q ∙ ap (λ t. eq_by_cmp cell_cmp q k || t) h ∙ either_true (eq_by_cmp cell_cmp q k)
  where
    either_true : (b : Bool) → (b || true) ≡ true
    either_true true = refl
    either_true false = refl
