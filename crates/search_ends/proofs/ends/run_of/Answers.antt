use Rattle.std.proofs.Common.{◌≡◌, refl, sym, subst, ap, ◌∙◌, List}
use Rattle.fractions.specs.Rational.{ℚ}
use Rattle.fractions.specs.Vectors.{at}
use Rattle.dictionaries.proofs.Ends.{end_is_final}
use Rattle.searches.specs.Trails.{no_point, best, no_bound, without_point, at_best, without_bound, is_empty, is_endless, decisions_at}
use Rattle.linear_programs.specs.Program.{Program}
use Rattle.linear_models.specs.Box.{Box, InBox}
use Rattle.linear_models.specs.Laws.{IsBoxOf}
use Rattle.searches.specs.TrueTrees.{IsBasicBest}
use Rattle.searches.proofs.AlikeSplits.{best_in_box}
use Rattle.searches.proofs.Boxes.{along_is_box}
use Rattle.search_ends.specs.Ends.{ComesToWith, end_at}
use Rattle.search_ends.proofs.Pairs.{bounds_in}
use Rattle.search_ends.proofs.ends.run_of.Goals as goal

pub returns-in-Pivot-clause-run : goal.returns-in-Pivot-clause-run
returns-in-Pivot-clause-run c =
    (λ h. end_is_final c.args.of.now c.args.dict.now c.in-Pivot.row c.in-Pivot.column c.in-Pivot.ensures.on_the_way h c.in-Pivot.ensures.next, c.in-Pivot.ensures.next)

pub returns-in-Infeasible-clause-run : goal.returns-in-Infeasible-clause-run
returns-in-Infeasible-clause-run c = record { outcome = no_point; finishes = without_point c.in-Infeasible.ensures.next; comes = λ found e. is_empty }

pub returns-in-Unbounded-clause-run : goal.returns-in-Unbounded-clause-run
returns-in-Unbounded-clause-run c =
    rw (c.read_point.ensures, c.read_direction.ensures) record {
      outcome = no_bound _ _;
      finishes = without_bound c.in-Unbounded.col c.in-Unbounded.ensures.next;
      comes = λ found e. is_endless _ _;
    }

pub returns-in-Best-clause-run : goal.returns-in-Best-clause-run
returns-in-Best-clause-run c =
    let p = c.args.of.now in
    let d = c.args.dict.now in
    let x : c.read_point-in-Best.new.into ≡ decisions_at p d = c.read_point-in-Best.ensures in
    let v : c.rest-value.result ≡ at d.objective 0 = c.rest-value.ensures ∙ ap (λ (r : List ℚ). at r 0) c.objective.ensures in
    let k : ComesToWith c.args.model.now c.args.within.now c.args.best (best c.read_point-in-Best.new.into c.rest-value.result) (end_at c.end_at_best.result c.read_point-in-Best.new.into c.args.direction.now) = c.end_at_best.ensures.comes c.args.direction.now in
    record {
      outcome = best (decisions_at p d) (at d.objective 0);
      finishes = at_best c.in-Best.ensures.next;
      comes = subst (λ (u : ℚ). ComesToWith c.args.model.now c.args.within.now c.args.best (best (decisions_at p d) u) (end_at c.end_at_best.result c.read_point-in-Best.new.into c.args.direction.now)) v
          (subst (λ (y : List ℚ). ComesToWith c.args.model.now c.args.within.now c.args.best (best y c.rest-value.result) (end_at c.end_at_best.result c.read_point-in-Best.new.into c.args.direction.now)) x k);
    }

pub end_at_best-requires-clause-sized : goal.end_at_best-requires-clause-sized
end_at_best-requires-clause-sized c =
    let m = c.args.model.now in
    let v = c.whole-valid.ensures.valid in
    let n = c.requires.node in
    subst (λ (b : Box). IsBoxOf m b) (sym n.1) (along_is_box m m.bounds n.0 record { least = v.least; greatest = v.greatest })

pub end_at_best-requires-clause-in_box : goal.end_at_best-requires-clause-in_box
end_at_best-requires-clause-in_box c =
    let m = c.args.model.now in
    let box = c.args.within.now in
    let p = c.args.of.now in
    let d = c.args.dict.now in
    let v = c.whole-valid.ensures.valid in
    let n = c.requires.node in
    let plain = c.requires.program.0 in
    let sized : IsBoxOf m box = subst (λ (b : Box). IsBoxOf m b) (sym n.1) (along_is_box m m.bounds n.0 record { least = v.least; greatest = v.greatest }) in
    let best : IsBasicBest p (decisions_at p d) = record { dictionary = d; represents = c.in-Best.ensures.on_the_way.dictionary; is_best = c.in-Best.ensures.next; point = refl } in
    subst (λ (x : List ℚ). InBox box x) (sym c.read_point-in-Best.ensures)
    (best_in_box m plain box (decisions_at p d) v sized (subst (λ (q : Program). IsBasicBest q (decisions_at p d)) c.requires.program.1 best)).bounds

pub end_at_best-requires-clause-bounds : goal.end_at_best-requires-clause-bounds
end_at_best-requires-clause-bounds c = λ j i. bounds_in c.args.model.now c.requires.node.0 c.args.within.now j c.whole-valid.ensures.valid c.requires.node.1 i
