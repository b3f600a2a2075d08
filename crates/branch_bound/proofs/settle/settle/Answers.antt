use Rattle.std.proofs.Common.{◌∙◌, sym, subst, ap, ap₂, List, length, arith}
use Rattle.std.specs.Prelude.{None}
use Rattle.fractions.specs.Rational.{ℚ}
use Rattle.std.specs.Option.{option_map}
use Rattle.linear_models.specs.Standard.{standard}
use Rattle.searches.specs.Trails.{goes_on, ended, is_plain}
use Rattle.searches.specs.Messages.{news_of}
use Rattle.linear_models.specs.Box.{Box}
use Rattle.search_ends.specs.Ends.{IsEndOf, end_at}
use Rattle.branch_bound.specs.States.{path_of, state_of, waiting_of, way_of}
use Rattle.branch_bound.proofs.Joining.{became_end, same_value, written_back}
use Rattle.branch_bound.proofs.Hearing.{hears_none}
use Rattle.branch_bound.proofs.settle.settle.Goals as goal

pub returns-in-Goes-clause-becomes : goal.returns-in-Goes-clause-becomes
returns-in-Goes-clause-becomes g c = record { becomes = goes_on c.in-Goes.ensures.run.0; hears = hears_none _ }

pub returns-in-Ends-clause-becomes : goal.returns-in-Ends-clause-becomes
returns-in-Ends-clause-becomes g c =
    let f = c.args.frontier.now in
    let w = c.args.work in
    let e = c.in-Ends.end in
    let x = c.run_of-run.new.point in
    let d = c.run_of-run.new.direction in
    let a = c.run_of-run.auto.point in
    let b = ap length c.deref_mut.ensures.value in
    let i = c.run_of-run.auto.direction in
    let j = ap length c.deref_mut-2.ensures.value in
    let p = written_back w.point.len x w.point.items w.point.ok.0 (omega (arith, a, b)) in
    let q = written_back w.direction.len d w.direction.items w.direction.ok.0 (omega (arith, i, j)) in
    became_end c.args.model.now (state_of f None) (state_of c.finish.new.frontier None) (waiting_of f.paths.paths w.info) w.pivots w.dict w.program c.best_value-best.result
    (end_at e x d) _ _ c.requires.ready.program (same_value f.found ∙ sym c.best_value-best.ensures)
    (subst (λ (b : Box). IsEndOf c.args.model.now b c.best_value-best.result w.program w.dict (end_at e x d)) c.requires.ready.within c.in-Ends.ensures.run)
    (c.finish.ensures.ended ∙ ap₂ (λ (u v : List ℚ). ended (state_of f None) (waiting_of f.paths.paths w.info) w.pivots (end_at e u v)) p q)
    (ap₂ (λ (u v : List ℚ). news_of w.info.number (length f.paths.paths) (end_at e u v)) p q) c.finish.ensures.heard

pub run_of-run-requires-clause-program : goal.run_of-run-requires-clause-program
run_of-run-requires-clause-program g c = (is_plain (option_map way_of c.args.frontier.now.way), c.requires.ready.program ∙ ap (λ (b : Box). standard c.args.model.now b (is_plain (option_map way_of c.args.frontier.now.way))) (sym c.requires.ready.within))

pub run_of-run-requires-clause-node : goal.run_of-run-requires-clause-node
run_of-run-requires-clause-node g c = (path_of c.args.frontier.now.paths.paths c.args.work.info.number, c.requires.ready.within)
