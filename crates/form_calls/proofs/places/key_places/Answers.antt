use Rattle.std.proofs.Common.{◌≡◌, ◌*◌, ◌∙◌, ap, arith, length}
use Rattle.std.proofs.lemmas.List.FromFn.{length-map-range_with_len}
use Rattle.form_calls.proofs.InRows.{key_more}
use Rattle.form_calls.proofs.places.key_places.Goals as goal

pub loop-row-preserved : goal.loop-row-preserved
loop-row-preserved c = key_more (λ row. row * c.args.columns) c.loop-row.places.items c.push.new.self.items c.loop-row.row c.loop-row.invariant c.in_ok-push.ensures.items

pub returns-clause-count : goal.returns-clause-count
returns-clause-count c =
    let all : c.loop-row.row ≡ c.args.rows = omega arith in
    ap length c.loop-row.invariant ∙ length-map-range_with_len (λ row. row * c.args.columns) 0 c.loop-row.row ∙ all
