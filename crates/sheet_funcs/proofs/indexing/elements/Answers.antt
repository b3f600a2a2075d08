use Rattle.std.proofs.Common.{ℕ, ◌∙◌, ◌≡◌, ◌+◌, ◌-◌, ◌++◌, ap, sym, map, arith}
use Rattle.std.specs.List.{flat_map, range_with_len}
use Rattle.sheet_funcs.specs.Arguments.{at}
use Rattle.sheet_funcs.specs.Picks.{from_to}
use Rattle.sheet_funcs.proofs.Parts.{rows_more}
use Rattle.sheet_funcs.proofs.indexing.elements.Goals as goal

pub loop-row-preserved : goal.loop-row-preserved
loop-row-preserved c =
    let f = λ (row : ℕ). map (λ column. at c.args.grid.now row column) (from_to c.args.left c.args.right) in
    let n = c.loop-row.row - c.args.top in
    let here : c.args.top + n ≡ c.loop-row.row = omega arith in
    let next : c.loop-row.row + 1 - c.args.top ≡ n + 1 = omega arith in
    c.in_ok-push_copies.ensures
    ∙ ap (λ xs. xs ++ c.row_part.result.now) c.loop-row.invariant
    ∙ ap (λ xs. flat_map f (range_with_len c.args.top n) ++ xs) (c.row_part.ensures ∙ ap f (sym here))
    ∙ rows_more f c.args.top n
    ∙ ap (λ m. flat_map f (range_with_len c.args.top m)) (sym next)
