use Rattle.std.proofs.Common.{◌≡◌, ◌≢◌, ◌∙◌, ℕ, below_more, false, get_or, true}
use Rattle.dep_table.specs.declared.tour.Mark.TheVariants.{New}
use Rattle.dep_table.specs.Tour.{mark_at}
use Rattle.dep_table.proofs.tour.explore_wanted.Goals as goal

pub loop-root-preserved : goal.loop-root-preserved
loop-root-preserved c = record {
  sound = c.in_ok-explore.ensures.sound;
  nodes = c.explore.auto.marks ∙ c.loop-root.invariant.nodes;
  visited = below_more (λ (k : ℕ). get_or c.args.wanted.now k false ≡ true → mark_at c.explore.new.marks k ≢ New) _
      (λ k h w. c.in_ok-explore.ensures.kept k (c.loop-root.invariant.visited k h w)) (λ w. c.in_ok-explore.ensures.visited);
}
