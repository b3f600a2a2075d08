use Rattle.std.proofs.Common.{◌≡◌, ◌<◌, ℕ, [], length, arith, sym, ap, ◌∙◌, subst, List, set, ◌++◌, ◌∷◌, length-set}
use Rattle.std.proofs.lemmas.List.{get_or-set_same}
use Rattle.dep_table.specs.declared.tour.Mark.TheVariants.{New, Open}
use Rattle.dep_table.specs.Edges.{edge, slot}
use Rattle.dep_table.specs.Tour.{IsSound, mark_at}
use Rattle.std.proofs.lemmas.List.{nil_from_length}
use Rattle.std.proofs.lemmas.Bool.Decides.{nat_tests}
use Rattle.dep_table.proofs.TourLaws.{enter, set_kept, open_not_new}
use Rattle.dep_table.proofs.tour.explore.Goals as goal

pub loop-stack-init : goal.loop-stack-init
loop-stack-init c =
    let within : c.args.root < length c.args.marks.now = omega (arith, c.requires.root, c.requires.nodes) in
    let new : mark_at c.args.marks.now c.args.root ≡ New = cc c.in-New.is in
    let alone : c.push.new.self.items ≡ [] ++ c.args.root ∷ [] = c.in_ok-push.ensures.items ∙ ap (λ (s : List ℕ). s ++ c.args.root ∷ []) c.new-stack.ensures.items in
    let opened = get_or-set_same c.args.marks.now c.args.root Open New within in
    record {
      sound = subst (λ (s : List ℕ). IsSound (length c.args.formulas.now) (edge c.args.formulas.now c.args.leaves.now) (slot c.args.formulas.now c.args.leaves.now) (set c.args.marks.now c.args.root Open) c.args.cursors.now s c.args.order.now.items) (sym alone)
          (enter (length c.args.formulas.now) (edge c.args.formulas.now c.args.leaves.now) (slot c.args.formulas.now c.args.leaves.now) c.args.marks.now c.args.cursors.now [] c.args.order.now.items c.args.root c.requires.sound within new (λ p h. absurd (omega arith)));
      nodes = length-set c.args.marks.now c.args.root Open ∙ c.requires.nodes;
      kept = set_kept c.args.marks.now c.args.root Open within open_not_new;
      visited = λ e. open_not_new (sym opened ∙ e);
    }

pub loop-stack-preserved : goal.loop-stack-preserved
loop-stack-preserved c = record {
  sound = c.in_ok-step.ensures.sound;
  nodes = c.step.auto.marks ∙ c.loop-stack.invariant.nodes;
  kept = λ k h. c.in_ok-step.ensures.kept k (c.loop-stack.invariant.kept k h);
  visited = c.in_ok-step.ensures.kept c.args.root c.loop-stack.invariant.visited;
}

pub returns-clause-sound : goal.returns-clause-sound
returns-clause-sound c = subst (λ (s : List ℕ). IsSound (length c.args.formulas.now) (edge c.args.formulas.now c.args.leaves.now) (slot c.args.formulas.now c.args.leaves.now) c.loop-stack.marks c.loop-stack.cursors s c.loop-stack.order.items) (nil_from_length c.loop-stack.stack.items (grind (arith, nat_tests, c.is_empty.ensures, c.loop-stack-test.false, c.loop-stack.stack.ok.0))) c.loop-stack.invariant.sound
