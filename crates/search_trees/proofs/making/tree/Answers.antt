use Rattle.std.proofs.Common.{◌∙◌, None, Ok, subst, sym}
use Rattle.std.proofs.lemmas.Bool.{false≢true}
use Rattle.linear_models.specs.Model.{Model, IsValid}
use Rattle.branch_bound.specs.States.{state_of}
use Rattle.search_trees.specs.Trees.{IsUnboundedBy, LastTreeMade}
use Rattle.search_trees.proofs.Saying.{IsDone, rests, unbounded_made, bounded_made, never_refused}
use Rattle.search_trees.proofs.making.tree.Goals as goal

pub returns-then-is_unbounded-clause-made : goal.returns-then-is_unbounded-clause-made
returns-then-is_unbounded-clause-made c =
    let m = c.args.search.now.model in
    let s = c.args.search.now.state in
    let f = c.frontier-frontier.result.now in
    let d : IsDone m f c.args.search.now.units s =
    record { valid = subst IsValid c.model.ensures c.whole-whole.ensures.valid; trail = c.units-units.ensures.trail; at_rest = c.requires.ended.at_rest; over = c.requires.ended.over; is = rests s (state_of f None) c.requires.ended.at_rest c.frontier-frontier.ensures } in
    let u = subst (λ (m : Model). IsUnboundedBy m f) c.model-2.ensures (c.is_unbounded.ensures.0 c.if-is_unbounded.true) in
    unbounded_made m f c.args.search.now.units s c.none.result d u c.none.ensures

pub returns-then-is_unbounded-clause-accepted : goal.returns-then-is_unbounded-clause-accepted
returns-then-is_unbounded-clause-accepted c =
    let m = c.args.search.now.model in
    let s = c.args.search.now.state in
    let f = c.frontier-frontier.result.now in
    let d : IsDone m f c.args.search.now.units s =
    record { valid = subst IsValid c.model.ensures c.whole-whole.ensures.valid; trail = c.units-units.ensures.trail; at_rest = c.requires.ended.at_rest; over = c.requires.ended.over; is = rests s (state_of f None) c.requires.ended.at_rest c.frontier-frontier.ensures } in
    let u = subst (λ (m : Model). IsUnboundedBy m f) c.model-2.ensures (c.is_unbounded.ensures.0 c.if-is_unbounded.true) in
    never_refused m s (Ok c.none.result) d.valid (unbounded_made m f c.args.search.now.units s c.none.result d u c.none.ensures)

pub returns-clause-made : goal.returns-clause-made
returns-clause-made c =
    let m = c.args.search.now.model in
    let s = c.args.search.now.state in
    let f = c.frontier-frontier.result.now in
    let d : IsDone m f c.args.search.now.units s =
    record { valid = subst IsValid c.model.ensures c.whole-whole.ensures.valid; trail = c.units-units.ensures.trail; at_rest = c.requires.ended.at_rest; over = c.requires.ended.over; is = rests s (state_of f None) c.requires.ended.at_rest c.frontier-frontier.ensures } in
    let u : IsUnboundedBy m f → ⊥ = λ u. false≢true (sym c.if-is_unbounded.false ∙ c.is_unbounded.ensures.1 (subst (λ (m : Model). IsUnboundedBy m f) (sym c.model-2.ensures) u)) in
    let l = subst (λ (m : Model). LastTreeMade m (state_of f None) c.last_tree.result) c.model-3.ensures c.last_tree.ensures in
    bounded_made m f c.args.search.now.units s c.last_tree.result d u l

pub returns-clause-accepted : goal.returns-clause-accepted
returns-clause-accepted c =
    let m = c.args.search.now.model in
    let s = c.args.search.now.state in
    let f = c.frontier-frontier.result.now in
    let d : IsDone m f c.args.search.now.units s =
    record { valid = subst IsValid c.model.ensures c.whole-whole.ensures.valid; trail = c.units-units.ensures.trail; at_rest = c.requires.ended.at_rest; over = c.requires.ended.over; is = rests s (state_of f None) c.requires.ended.at_rest c.frontier-frontier.ensures } in
    let u : IsUnboundedBy m f → ⊥ = λ u. false≢true (sym c.if-is_unbounded.false ∙ c.is_unbounded.ensures.1 (subst (λ (m : Model). IsUnboundedBy m f) (sym c.model-2.ensures) u)) in
    let l = subst (λ (m : Model). LastTreeMade m (state_of f None) c.last_tree.result) c.model-3.ensures c.last_tree.ensures in
    never_refused m s c.last_tree.result d.valid (bounded_made m f c.args.search.now.units s c.last_tree.result d u l)
