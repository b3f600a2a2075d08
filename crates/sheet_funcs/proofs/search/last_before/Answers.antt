use Rattle.std.proofs.Common.{◌∙◌, ◌*◌, ◌≡◌, ap, sym, arith, below_more}
use Rattle.std.proofs.lemmas.List.{get_or_read}
use Rattle.sheet_model.specs.declared.value.Value.TheVariants.{Empty}
use Rattle.sheet_funcs.specs.Lookups.{is_key, last_place}
use Rattle.sheet_funcs.specs.Searches.{spaced, stands}
use Rattle.sheet_funcs.proofs.Searching.{before_place, last_here, last_so_far, still_within}
use Rattle.sheet_funcs.proofs.search.last_before.Goals as goal
use Rattle.sheet_funcs.proofs.search.last_before.Goals.{then-is_key, else-is_key}

pub returns-then-stands-clause-place : goal.returns-then-stands-clause-place
returns-then-stands-clause-place c =
    let test = stands c.args.order c.args.key.now in
    let i = c.loop-place.place in
    c.loop-place.invariant.last
    ∙ ap (last_place is_key)
    (sym (before_place test c.args.items.now c.args.step c.args.count i (omega arith) c.loop-place.invariant.clear
    (λ _. ap test (sym (get_or_read c.args.items.now (i * c.args.step) c.index-items-place.result (c.requires.spaced i (omega arith)) c.index-items-place.is Empty)) ∙ sym c.stands.ensures ∙ c.if-stands.true)))

pub returns-clause-place : goal.returns-clause-place
returns-clause-place c =
    let count : c.loop-place.place ≡ c.args.count = omega arith in
    c.loop-place.invariant.last
    ∙ ap (λ n. last_place is_key (spaced c.args.items.now c.args.step n)) count
    ∙ ap (last_place is_key)
    (sym (before_place (stands c.args.order c.args.key.now) c.args.items.now c.args.step c.args.count c.args.count (omega arith) (λ k h. c.loop-place.invariant.clear k (omega arith)) (λ h. absurd (omega arith))))

pub loop-place-preserved : goal.loop-place-preserved
loop-place-preserved c =
    let test = stands c.args.order c.args.key.now in
    let i = c.loop-place.place in
    let read = get_or_read c.args.items.now (i * c.args.step) c.index-items-place.result (c.requires.spaced i (omega arith)) c.index-items-place.is Empty in
    record {
      clear = below_more _ _ c.loop-place.invariant.clear (ap test (sym read) ∙ sym c.stands.ensures ∙ c.if-stands.false);
      last = elim c.if-is_key.branch [
        | then-is_key w ↦ w.last-is ∙ last_here is_key c.args.items.now c.args.step i c.index-items-place.result read (sym c.is_key.ensures ∙ w.if-is_key.true)
        | else-is_key w ↦ w.last-is ∙ c.loop-place.invariant.last ∙ last_so_far is_key c.args.items.now c.args.step i c.index-items-place.result read (sym c.is_key.ensures ∙ w.if-is_key.false)
      ];
      within = elim c.if-is_key.branch [ then-is_key w ↦ rw w.last-is (omega arith) | else-is_key w ↦ rw w.last-is (still_within c.loop-place.last i c.loop-place.invariant.within) ];
    }
