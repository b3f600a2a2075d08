use Rattle.std.proofs.Common.{ℕ, List, ap, sym, subst, ◌∙◌}
use Rattle.search_paths.specs.declared.origin.Origin.{Origin}
use Rattle.search_paths.specs.Walks.{IsWay}
use Rattle.search_paths.proofs.Walking.{is_there, same_place, way_last}
use Rattle.search_paths.proofs.walk.lead.Goals as goal

pub step_down-requires-clause-there : goal.step_down-requires-clause-there
step_down-requires-clause-there c =
    let os = c.args.origins.now in
    let way = subst (λ (ns : List ℕ). IsWay os ns c.loop-next.walk.at c.args.number) c.in-Some.ensures.items c.loop-next.invariant.way in
    let r = way_last os c.pop.new.self.items c.in-Some.next c.loop-next.walk.at c.args.number way in
    is_there os c.in-Some.next r.0 r.1

pub step_down-requires-clause-next : goal.step_down-requires-clause-next
step_down-requires-clause-next c = λ o e.
    let os = c.args.origins.now in
    let way = subst (λ (ns : List ℕ). IsWay os ns c.loop-next.walk.at c.args.number) c.in-Some.ensures.items c.loop-next.invariant.way in
    let r = way_last os c.pop.new.self.items c.in-Some.next c.loop-next.walk.at c.args.number way in
    ap (λ (x : Origin). x.parent) (same_place os c.in-Some.next o r.0 e r.1) ∙ sym r.2

pub loop-next-preserved : goal.loop-next-preserved
loop-next-preserved c =
    let os = c.args.origins.now in
    let way = subst (λ (ns : List ℕ). IsWay os ns c.loop-next.walk.at c.args.number) c.in-Some.ensures.items c.loop-next.invariant.way in
    let r = way_last os c.pop.new.self.items c.in-Some.next c.loop-next.walk.at c.args.number way in
    record {
      at = c.step_down.ensures.at;
      way = subst (λ (n : ℕ). IsWay os c.pop.new.self.items n c.args.number) (sym c.in_ok-step_down.ensures.there) r.3;
      root = c.step_down.ensures.root ∙ c.loop-next.invariant.root;
    }
