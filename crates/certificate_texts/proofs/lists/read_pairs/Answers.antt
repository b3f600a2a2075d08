use Rattle.std.proofs.Common.{option_map, rules, subst, sym}
use Rattle.std.proofs.lemmas.List.{nil_from_length}
use Rattle.certificate_texts.specs.Lists.{NextPair}
use Rattle.certificate_texts.proofs.PairLists.{FarPairs, pair_shorter, pairs_end, pairs_next, pairs_none, pairs_start}
use Rattle.certificate_texts.proofs.lists.read_pairs.Goals as goal

pub loop-rest-init : goal.loop-rest-init
loop-rest-init c = subst (λ xs. FarPairs c.args.most c.args.text.now xs c.args.text.now) (sym c.new-numbers.ensures.items) (pairs_start c.args.most c.args.text.now c.requires.starts)

pub next_pair-requires-clause-starts : goal.next_pair-requires-clause-starts
next_pair-requires-clause-starts c = c.loop-rest.invariant.starts

pub loop-rest-smaller : goal.loop-rest-smaller
loop-rest-smaller c =
    pair_shorter c.args.most c.loop-rest.numbers.items c.loop-rest.rest.now c.next_pair.new.numbers.items c.in-Some.behind.now
    (subst (λ o. NextPair c.args.most c.loop-rest.numbers.items c.loop-rest.rest.now c.next_pair.new.numbers.items (option_map (λ r. r.now) o)) c.in-Some.is c.in_ok-behind.ensures)

pub loop-rest-preserved : goal.loop-rest-preserved
loop-rest-preserved c =
    pairs_next c.args.most c.args.text.now c.loop-rest.numbers.items c.loop-rest.rest.now c.next_pair.new.numbers.items c.in-Some.behind.now c.requires.most c.loop-rest.invariant
    (subst (λ o. NextPair c.args.most c.loop-rest.numbers.items c.loop-rest.rest.now c.next_pair.new.numbers.items (option_map (λ r. r.now) o)) c.in-Some.is c.in_ok-behind.ensures)

pub returns-in-None : goal.returns-in-None
returns-in-None c =
    pairs_none c.args.most c.args.text.now c.loop-rest.numbers.items c.loop-rest.rest.now c.next_pair.new.numbers.items c.loop-rest.invariant
    (subst (λ o. NextPair c.args.most c.loop-rest.numbers.items c.loop-rest.rest.now c.next_pair.new.numbers.items (option_map (λ r. r.now) o)) c.in-None.is c.in_ok-behind.ensures)

pub returns : goal.returns
returns c = pairs_end c.args.most c.args.text.now c.loop-rest.numbers.items c.loop-rest.rest.now c.loop-rest.invariant (nil_from_length c.loop-rest.rest.now (search rules))
