use Rattle.std.proofs.Common.{◌∙◌, ◌≡◌, ◌⊎◌, inl, inr, max, ap, sym}
use Rattle.sheet_funcs.specs.Arguments.{grid_of}
use Rattle.sheet_funcs.specs.Lookups.{found, lookup_pick}
use Rattle.sheet_funcs.specs.Searches.{spaced}
use Rattle.sheet_funcs.proofs.Looking.{line_pick}
use Rattle.sheet_funcs.proofs.lookups.pick_by.Goals as goal
use Rattle.sheet_funcs.proofs.lookups.pick_by.Goals.{else-rows-ne1-via-then-rows-ne1+else-columns-ne1, else-rows-ne1-via-else-rows-ne1}

pub returns-clause-pick : goal.returns-clause-pick
returns-clause-pick c =
    let g = grid_of c.args.keys.now in
    let line : (g.rows ≡ 1) ⊎ (g.columns ≡ 1) = elim c.else-rows-ne1.branch [
      | else-rows-ne1-via-then-rows-ne1+else-columns-ne1 w ↦ inr (sym c.columns_of-columns.ensures ∙ w.if-columns-ne1.false)
      | else-rows-ne1-via-else-rows-ne1 w ↦ inl (sym c.rows_of-rows.ensures ∙ w.if-rows-ne1.false)
    ] in
    c.pick_in.ensures
    ∙ line_pick c.args.key.now c.args.keys.now c.in-Ok.key.now c.in-Ok-kind.number c.full_elements.result.now c.max.result c.place_of_key-place.result c.in-Ok.ensures c.full_elements.ensures.full line
    c.full_elements.ensures.items (c.max.ensures ∙ ap (λ n. max n c.columns_of-columns.result) c.rows_of-rows.ensures ∙ ap (max g.rows) c.columns_of-columns.ensures)
    (c.place_of_key-place.ensures.place ∙ ap (λ k. found k c.in-Ok.key.now (spaced c.full_elements.result.now 1 c.max.result)) c.kind_of-kind.ensures)
    ∙ ap (lookup_pick c.args.key.now c.args.keys.now) (sym c.in-Ok-kind.is)
