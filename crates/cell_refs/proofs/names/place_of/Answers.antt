use Rattle.std.proofs.Common.{◌<◌, below_more, length, refl, arith, rules}
use Rattle.std.proofs.lemmas.Option.{slice_get_read}
use Rattle.cell_refs.proofs.NamesLemmas.{named_below, named_item}
use Rattle.cell_refs.proofs.names.place_of.Goals as goal

pub loop-place-preserved : goal.loop-place-preserved
loop-place-preserved c =
    let lt : c.loop-place.place < length c.args.names.now = search rules in
    let there = slice_get_read c.args.names.now (length c.args.names.now) c.loop-place.place c.index-names-place.result refl lt c.index-names-place.is in
    below_more _ _ c.loop-place.invariant
    (λ named. let same = named_item c.args.names.now c.args.name.now c.loop-place.place c.index-names-place.result there named in cc (c.if-eq_ignore_ascii_case.ensures.test.1 (rw c.as_str.ensures.value same)))

pub returns-clause-none : goal.returns-clause-none
returns-clause-none c = λ id named.
    let below = named_below c.args.names.now c.args.name.now id named in
    c.loop-place.invariant id (omega (arith, below, c.loop-place-test.false)) named
