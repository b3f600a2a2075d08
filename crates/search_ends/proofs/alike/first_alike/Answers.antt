use Rattle.std.proofs.Common.{◌≡◌, ◌<◌, ℕ, List, Some, length, arith, sym, subst}
use Rattle.std.specs.Prelude.{All, slice_get}
use Rattle.std.proofs.lemmas.List.{length-map}
use Rattle.lin_model.specs.Lists.{lists_of}
use Rattle.searches.specs.Alike.{AreAlike, AreFirstAlike}
use Rattle.search_ends.specs.Pairs.{IsFirstPair}
use Rattle.search_ends.proofs.Pairs.{alike_found, all_different, at_place, group_below, none_more, place_within}
use Rattle.search_ends.proofs.alike.first_alike.Goals as goal

pub first_pair-requires-clause-below : goal.first_pair-requires-clause-below
first_pair-requires-clause-below c =
    let k = c.loop-group.group-index in
    let e = at_place c.groups-groups.result.now k c.group-item.result c.loop-group-test.true c.group-item.is in
    subst (λ (g : List ℕ). All (λ j. j < length c.args.point.now) g) (sym c.deref.ensures.value)
    (group_below c.args.model.now (length c.args.point.now) k c.group-item.result.items c.groups-groups.ensures.valid c.requires.one_each
    (subst (λ (gs : List (List ℕ)). slice_get gs k ≡ Some c.group-item.result.items) c.groups-groups.ensures.groups e))

pub returns-in-Some : goal.returns-in-Some
returns-in-Some c =
    let x = c.args.point.now in
    let k = c.loop-group.group-index in
    let e = at_place c.groups-groups.result.now k c.group-item.result c.loop-group-test.true c.group-item.is in
    let one = c.in-Some.pair.0 in
    let other = c.in-Some.pair.1 in (
      subst (λ (gs : List (List ℕ)). AreFirstAlike x gs one other) c.groups-groups.ensures.groups
          (alike_found x (lists_of c.groups-groups.result.now) k c.group-item.result.items one other e c.loop-group.invariant
          (subst (λ (g : List ℕ). IsFirstPair x g one other) c.deref.ensures.value c.in-Some.ensures.0)),
      c.in-Some.ensures.1,
    )

pub loop-group-preserved : goal.loop-group-preserved
loop-group-preserved c =
    let x = c.args.point.now in
    let k = c.loop-group.group-index in
    let e = at_place c.groups-groups.result.now k c.group-item.result c.loop-group-test.true c.group-item.is in
    none_more x (lists_of c.groups-groups.result.now) k c.group-item.result.items e c.loop-group.invariant
    (subst (λ (g : List ℕ). (i j : ℕ) → ¬ (AreAlike x g i j)) c.deref.ensures.value c.in-None.ensures)

pub returns : goal.returns
returns c = all_different c.args.model.now c.args.point.now c.groups-groups.ensures.valid (λ n h a b q p.
    let gs = c.groups-groups.result.now in
    let s : slice_get (lists_of gs) n ≡ Some h = subst (λ (hs : List (List ℕ)). slice_get hs n ≡ Some h) (sym c.groups-groups.ensures.groups) q in
    let l = place_within (lists_of gs) n h s in
    let w = length-map gs (λ v. v.items) in
    c.loop-group.invariant n h a b (omega (arith, l, w, c.loop-group-test.false)) s p)
