-- The cells of areas, one after the other.
use Rattle.std.proofs.Common.{◌≡◌, ◌<◌, ◌+◌, ◌-◌, ℕ, true, cond, List, [], ◌∷◌, map, Option, Some, sym, ap, ◌∙◌, arith}
use Rattle.std.specs.Prelude.{fold, not}
use Rattle.std.specs.List.{range_with_len}
use Rattle.std.proofs.lemmas.List.FromFn.{map-range_with_len_more}
use Rattle.std.proofs.lemmas.List.Sums.{fold-append}
use Rattle.sheet_funcs.proofs.Ranges.{from_below}
use Rattle.cell_refs.specs.declared.cell.Cell.{Cell}
use Rattle.cell_refs.specs.Areas.{Area, area_len, cell_at, cells_of}
use Rattle.solver_names.specs.Constraints.{is_among}
use Rattle.solver_names.specs.Faults.{other_cell}
use Rattle.solver_names.specs.Texts.{with_cell}

-- one cell more is put
pub one_put : (a : Area) (start old new : List Cell) (i : ℕ) (cell : Cell) → old ≡ fold with_cell start (map (cell_at a) (range_with_len 0 i)) → new ≡ with_cell old cell → cell ≡ cell_at a i
    → new ≡ fold with_cell start (map (cell_at a) (range_with_len 0 (i + 1)))
one_put a start old new i cell so_far put is =
    put ∙ ap (λ cells. with_cell cells cell) so_far ∙ ap (with_cell (fold with_cell start (map (cell_at a) (range_with_len 0 i)))) is
    ∙ sym (ap (fold with_cell start) (map-range_with_len_more (cell_at a) 0 i i (omega arith)) ∙ fold-append with_cell start (map (cell_at a) (range_with_len 0 i)) (cell_at a i ∷ []))

-- the first that isn't to be decided, from a place on
abbrev pub other_from : List Cell → Area → ℕ → Option Cell
other_from decisions a i = other_cell decisions (map (cell_at a) (range_with_len i (area_len a - i)))

next : (decisions : List Cell) (a : Area) (i : ℕ) → i < area_len a
    → other_from decisions a i ≡ cond (not (is_among decisions (cell_at a i))) (Some (cell_at a i)) (other_from decisions a (i + 1))
next decisions a i h = ap (λ l. other_cell decisions (map (cell_at a) l)) (from_below i (area_len a) h)

pub other_later : (decisions : List Cell) (a : Area) (i : ℕ) (cell : Cell) → i < area_len a → cell ≡ cell_at a i → is_among decisions cell ≡ true
    → other_cell decisions (cells_of a) ≡ other_from decisions a i → other_cell decisions (cells_of a) ≡ other_from decisions a (i + 1)
other_later decisions a i cell h is among so_far =
    so_far ∙ next decisions a i h ∙ ap (λ b. cond (not b) (Some (cell_at a i)) (other_from decisions a (i + 1))) (ap (is_among decisions) (sym is) ∙ among)
