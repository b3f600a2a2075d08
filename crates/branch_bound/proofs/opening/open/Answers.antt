use Rattle.std.proofs.Common.{◌≡◌, refl, sym, ap, ◌∙◌}
use Rattle.std.specs.Prelude.{Some, slice_get}
use Rattle.std.proofs.lemmas.Option.{slice_get_read}
use Rattle.branch_bound.proofs.Openings.{removed_state, removed_orderly, opened_ready}
use Rattle.branch_bound.proofs.Hearing.{hears_opened}
use Rattle.branch_bound.proofs.opening.open.Given as given
use Rattle.branch_bound.proofs.opening.open.Goals as goal

pub returns-clause-opened : goal.returns-clause-opened
returns-clause-opened g c =
    let b = c.args.frontier.now in
    let m = c.prepare.new.frontier in
    let p = c.choice-place.result in
    let r = c.in_ok-work.ensures.ready in
    let s = c.in_ok-work.ensures.same in
    let l = rw c.deref.ensures.value at c.choice-place.ensures.place in
    let at : slice_get b.waiting.items p ≡ Some c.in_ok-work.work.info = slice_get_read b.waiting.items _ p c.index.result.now refl l c.index.ensures ∙ ap Some (sym (r.info ∙ c.copy_node-info.ensures)) in
    record {
      place = p;
      chosen = at;
      follows = rw c.deref.ensures.value at c.choice-place.ensures.follows;
      hears = hears_opened _ _ (λ ms. (given.Picker-dyn g (c.tell.new.pick.vtable, c.tell.new.pick.value)).heard c.tell.new.pick.value ms) _ c.copy_node-info.result _ (sym r.info) (rw c.deref.ensures.value at c.choice-place.ensures.heard) c.tell.ensures.heard;
      state = removed_state b m _ p s c.remove.ensures.items;
      ready = opened_ready c.args.model.now b m _ c.in_ok-work.work p c.remove.new.self r s c.requires.orderly at c.remove.ensures.len c.remove.ensures.capacity;
      pivots = r.pivots;
      first = r.first;
    }

pub returns-clause-orderly : goal.returns-clause-orderly
returns-clause-orderly g c =
    removed_orderly c.args.frontier.now c.prepare.new.frontier c.remove.new.self.items c.choice-place.result c.remove.new.self c.in_ok-work.ensures.same c.remove.ensures.items c.requires.orderly
