use Rattle.std.proofs.Common.{◌≡◌, ◌<◌, ◌+◌, [], ◌∷◌, length, get_or, ◌∙◌, arith}
use Rattle.std.proofs.lemmas.List.{length-set, drop-set-lt}
use Rattle.kept_forms.proofs.Marked.{one_marked, same_front, same_rest}
use Rattle.kept_forms.proofs.Placed.{at_place, sheets_stay}
use Rattle.kept_forms.proofs.places.mark_all.Goals as goal

pub loop-place-preserved : goal.loop-place-preserved
loop-place-preserved c =
    let i = c.loop-place.place in
    let before = c.args.tables.now.items in
    let tables = c.loop-place.tables.items in
    let kept = c.loop-place.invariant in
    let was = c.index_mut-table.result.now in
    let now = c.mark.new.self in
    let inside : i < length before = omega (arith, c.args.tables.now.ok.0, c.len-place-end.ensures, c.loop-place-test.true) in
    let there : i < length tables = omega (arith, inside, kept.as_long) in
    let read : was ≡ get_or tables i was = c.index_mut-table.ensures.value in
    record {
      as_long = length-set tables i now ∙ kept.as_long;
      rest = drop-set-lt (i + 1) tables i now (omega arith) ∙ same_rest tables before i was there inside kept.rest;
      marked = λ book references.
          one_marked book (c.args.cell ∷ []) before tables i was now inside kept.as_long (read ∙ same_front tables before i was there inside kept.rest) (kept.marked book references) (c.mark.ensures.forms book references);
      sheets = sheets_stay tables i was now (at_place tables i was there read) c.mark.ensures.sheet ∙ kept.sheets;
    }
