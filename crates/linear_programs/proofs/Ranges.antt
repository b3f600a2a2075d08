-- Ranges that grow by one, and cells of one column each.
use Rattle.std.proofs.Common.{◌≡◌, ℕ, zero, suc, ◌+◌, ◌<◌, sym, ap, ◌∙◌, subst, [], ◌∷◌, ◌++◌, length, map, get_or, arith}
use Rattle.std.specs.Prelude.{Option}
use Rattle.std.specs.List.{range_with_len}
use Rattle.std.proofs.lemmas.List.{map-append, length-map}
use Rattle.std.proofs.lemmas.List.FromFn.{get_or-map-range_with_len, length-range_with_len}
use Rattle.linear_programs.specs.Program.{Program, IsCell, single_column, single_columns}

range_suc : (a n : ℕ) → range_with_len a (suc n) ≡ range_with_len a n ++ (a + n) ∷ []
range_suc a zero = ap (λ t. t ∷ []) (omega arith)
range_suc a (suc n) = ap (λ l. a ∷ l) (range_suc (a + 1) n ∙ ap (λ t. range_with_len (a + 1) n ++ t ∷ []) (omega arith))

pub range_more : (a n : ℕ) → range_with_len a n ++ (a + n) ∷ [] ≡ range_with_len a (n + 1)
range_more a n = let e : suc n ≡ n + 1 = omega arith in sym (range_suc a n) ∙ ap (range_with_len a) e

pub single_columns_more : (n : ℕ) → single_columns n ++ single_column n ∷ [] ≡ single_columns (n + 1)
single_columns_more n =
    let e : range_with_len 0 n ++ n ∷ [] ≡ range_with_len 0 (n + 1) = ap (λ t. range_with_len 0 n ++ t ∷ []) (omega arith) ∙ range_more 0 n in
    sym (map-append single_column (range_with_len 0 n) (n ∷ [])) ∙ ap (map single_column) e

cell_at : (n k : ℕ) (d : ℕ × Option ℕ) → k < n → get_or (single_columns n) k d ≡ single_column k
cell_at n k d l = get_or-map-range_with_len single_column 0 n k k d l (omega arith)

pub single_cells : (p : Program) (n : ℕ) → n ≡ length p.objective → (k : ℕ) (d : ℕ × Option ℕ) → k < length (single_columns n) → IsCell p (get_or (single_columns n) k d)
single_cells p n e k d h =
    let l : k < n = omega (arith, h, length-map (range_with_len 0 n) single_column, length-range_with_len 0 n) in
    subst (IsCell p) (sym (cell_at n k d l)) (omega (arith, l, e))
