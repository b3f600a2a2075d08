-- Values stay those that are seen where a row is put.
use Rattle.std.proofs.Common.{◌≡◌, Bool, true, false, cond, List, Some, refl, sym, ap, ◌∙◌}
use Rattle.std.specs.BTreeMap.{is_at}
use Rattle.cell_refs.specs.declared.cell.Cell.{Cell}
use Rattle.cell_refs.specs.Cells.{cell_cmp}
use Rattle.cell_refs.proofs.Order.{exact_cells}
use Rattle.formula_ast.specs.Tree.{Tree}
use Rattle.recalculation.specs.Entries.{Book, Formula, entry}
use Rattle.recalc.specs.declared.rows.Row.{Row}
use Rattle.recalc.specs.declared.values.Known.{Known}
use Rattle.recalc.specs.declared.values.Values.{Values}
use Rattle.recalc.specs.Rows.{row_at, seen_by}
use Rattle.recalc.specs.Values.{HasSeen, known_value, value_at}
use Rattle.recalc.proofs.Walking.{equal_of}

pub still_seen : (book : Book) (rows after : List (Cell × Row)) (t new : Values) (a : Cell) (tree : Tree) (row : Row) (k : Known) → entry book a ≡ Some (Formula tree)
    → HasSeen book rows t → known_value k ≡ row.value → ((q : Cell) → value_at new q ≡ cond (is_at (cell_cmp a) q) (known_value k) (value_at t q))
    → ((q : Cell) → row_at after q ≡ cond (is_at (cell_cmp a) q) (Some row) (row_at rows q)) → HasSeen book after new
still_seen book rows after t new a tree row k says seen same put is q = put q ∙ by (is_at (cell_cmp a) q) refl ∙ sym (ap (seen_by (entry book q)) (is q))
  where
    by : (b : Bool) → is_at (cell_cmp a) q ≡ b → cond b (known_value k) (value_at t q) ≡ seen_by (entry book q) (cond b (Some row) (row_at rows q))
    by true e = same ∙ sym (ap (λ d. seen_by d (Some row)) (ap (entry book) (sym (exact_cells a q (equal_of (cell_cmp a q) e))) ∙ says))
    by false e = seen q
