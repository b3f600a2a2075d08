-- The order of cells, and maps from cells.
use Rattle.std.proofs.Common.{◌≡◌, ℕ, List, [], ◌∷◌, refl, sym, ap, ◌∙◌, cond}
use Rattle.std.specs.Prelude.{Some}
use Rattle.std.specs.Ordering.{nat_cmp, ordering_then}
use Rattle.std.specs.Cmp.{IsTotalOrder, nat_cmp_total, eq_by_cmp_equiv}
use Rattle.std.specs.FinMap.{get, find, from_entries, insert, get-from_entries, get-insert, same_map}
use Rattle.std.specs.Map.{lookup}
use Rattle.std.specs.BTreeMap.{is_at}
use Rattle.std.proofs.lemmas.Cmp.{on_total, then_total}
use Rattle.std.proofs.lemmas.Map.Lookups.{CmpEqualImpliesEq, exact_pairs, exact_unsigned}
use Rattle.cell_refs.specs.declared.cell.Cell.{Cell}
use Rattle.cell_refs.specs.Cells.{cell_cmp}

pub cells_total : IsTotalOrder cell_cmp
cells_total = then_total (on_total (λ c. c.sheet.0) nat_cmp_total) (then_total (on_total (λ c. c.row) nat_cmp_total) (on_total (λ c. c.col) nat_cmp_total))

-- cells that compare alike are one
pub exact_cells : CmpEqualImpliesEq cell_cmp
exact_cells a b h =
    ap (λ (p : ℕ × (ℕ × ℕ)). record { sheet = record { 0 = p.0 }; row = p.1.0; col = p.1.1 })
    (exact_pairs nat_cmp (λ (x y : ℕ × ℕ). ordering_then (nat_cmp x.0 y.0) (nat_cmp x.1 y.1)) exact_unsigned
    (exact_pairs nat_cmp nat_cmp exact_unsigned exact_unsigned) (a.sheet.0, (a.row, a.col)) (b.sheet.0, (b.row, b.col)) h)

find_cell : {X : Type 0} (es : List (Cell × X)) (q : Cell) → find cell_cmp q es ≡ lookup (is_at (cell_cmp q)) es
find_cell [] q = refl
find_cell (e ∷ es) q = ap (cond (is_at (cell_cmp q) e.0) (Some e.1)) (find_cell es q)

-- what the map that the entries make has at a cell
pub get_cell : {X : Type 0} (es : List (Cell × X)) (q : Cell) → get (from_entries {R = cell_cmp} es) q ≡ lookup (is_at (cell_cmp q)) es
get_cell es q = get-from_entries cells_total es q ∙ find_cell es q

-- entries that differ at one cell make maps that differ there
pub one_given : {X : Type 0} (es fs : List (Cell × X)) (s : Cell) (n : X) → ((q : Cell) → lookup (is_at (cell_cmp q)) fs ≡ cond (is_at (cell_cmp s) q) (Some n) (lookup (is_at (cell_cmp q)) es)) → from_entries {R = cell_cmp} fs ≡ insert (from_entries es) s n
one_given es fs s n h = same_map cells_total exact_cells _ _ (λ q.
    get_cell fs q ∙ h q ∙ ap (λ b. cond b (Some n) (lookup (is_at (cell_cmp q)) es)) ((eq_by_cmp_equiv cells_total).symm s q)
    ∙ sym (get-insert cells_total (from_entries es) s n q ∙ ap (cond (is_at (cell_cmp q) s) (Some n)) (get_cell es q)))
