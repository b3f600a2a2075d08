use Rattle.std.proofs.Common.{◌≡◌, ◌∙◌, suc, None, arith, length, set, sym}
use Rattle.std.specs.Prelude.{filter, is_some}
use Rattle.session.proofs.Cuts.{others_of_open}
use Rattle.session.proofs.open_searches.count_others.Goals as goal

pub overflow_sub-result : goal.overflow_sub-result
overflow_sub-result c =
    let e : c.count_open-count.result ≡ suc (length (filter is_some (set c.args.searches.now c.args.place None))) = c.count_open-count.ensures ∙ others_of_open c.args.searches.now c.args.place (sym c.has_search.ensures ∙ c.if-has_search.true) in
    omega (arith, e)

pub returns-then-has_search : goal.returns-then-has_search
returns-then-has_search c =
    let e : c.count_open-count.result ≡ suc (length (filter is_some (set c.args.searches.now c.args.place None))) = c.count_open-count.ensures ∙ others_of_open c.args.searches.now c.args.place (sym c.has_search.ensures ∙ c.if-has_search.true) in
    omega (arith, e)
