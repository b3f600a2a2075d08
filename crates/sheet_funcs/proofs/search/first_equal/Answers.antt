use Rattle.std.proofs.Common.{◌∙◌, ◌*◌, ap, sym, arith}
use Rattle.std.proofs.lemmas.List.{get_or_read}
use Rattle.sheet_model.specs.declared.value.Value.TheVariants.{Empty}
use Rattle.sheet_funcs.specs.Lookups.{is_equal_to}
use Rattle.sheet_funcs.proofs.Searching.{found_first, found_none}
use Rattle.sheet_funcs.proofs.search.first_equal.Goals as goal

pub returns-then-stands-clause-place : goal.returns-then-stands-clause-place
returns-then-stands-clause-place c =
    let test = is_equal_to c.args.key.now in
    let i = c.loop-place.place in
    found_first test c.args.items.now c.args.step c.args.count i (omega arith) c.loop-place.invariant
    (ap test (sym (get_or_read c.args.items.now (i * c.args.step) c.index-items-place.result (c.requires.spaced i (omega arith)) c.index-items-place.is Empty)) ∙ sym c.stands.ensures ∙ c.if-stands.true)

pub returns-clause-place : goal.returns-clause-place
returns-clause-place c = found_none (is_equal_to c.args.key.now) c.args.items.now c.args.step c.args.count (λ k h. c.loop-place.invariant k (omega arith))
