use Rattle.std.proofs.Common.{◌++◌, ◌∷◌, [], ap, arith, map, sym, ◌∙◌}
use Rattle.std.specs.List.{range_with_len}
use Rattle.std.proofs.lemmas.List.{append_assoc, append-nil}
use Rattle.std.proofs.lemmas.List.FromFn.{map-range_with_len_more}
use Rattle.cell_refs.specs.Areas.{cell_at}
use Rattle.recalc.proofs.circular.push_cells.Goals as goal

pub loop-place-init : goal.loop-place-init
loop-place-init c = record { so_far = sym (append-nil c.args.cells.now.items); within = omega arith }

pub loop-place-preserved : goal.loop-place-preserved
loop-place-preserved c = record {
  so_far =
      c.in_ok-push.ensures.items ∙ ap (λ s. s ++ c.at.result ∷ []) c.loop-place.invariant.so_far
      ∙ append_assoc c.args.cells.now.items (map (cell_at c.args.area.now) (range_with_len 0 c.loop-place.place)) (c.at.result ∷ [])
      ∙ ap (λ x. c.args.cells.now.items ++ (map (cell_at c.args.area.now) (range_with_len 0 c.loop-place.place) ++ x ∷ [])) c.at.ensures
      ∙ ap (λ s. c.args.cells.now.items ++ s) (sym (map-range_with_len_more (cell_at c.args.area.now) 0 c.loop-place.place c.loop-place.place (omega arith)));
  within = let t = c.loop-place-test.true in omega (arith, c.len-place-end.ensures);
}

pub returns : goal.returns
returns c =
    c.loop-place.invariant.so_far ∙ ap (λ n. c.args.cells.now.items ++ map (cell_at c.args.area.now) (range_with_len 0 n)) (let t = c.loop-place-test.false in let w = c.loop-place.invariant.within in omega (arith, c.len-place-end.ensures))
