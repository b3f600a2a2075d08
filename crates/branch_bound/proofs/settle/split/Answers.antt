use Rattle.std.proofs.Common.{ℕ, refl, ap, ◌∙◌}
use Rattle.searches.specs.Trees.{Part, lower, upper, in_parts}
use Rattle.opt_certificate.proofs.Wholes.{read_back}
use Rattle.branch_bound.specs.States.{state_of, waiting_of, with_child, with_opened}
use Rattle.std.specs.Prelude.{None}
use Rattle.branch_bound.proofs.Stepping.{split_end}
use Rattle.branch_bound.proofs.settle.split.Goals as goal

pub wait_part-requires-2-clause-room : goal.wait_part-requires-2-clause-room
wait_part-requires-2-clause-room g c = c.wait_part.ensures.room 1 c.requires.room

pub keep-requires-clause-room : goal.keep-requires-clause-room
keep-requires-clause-room g c = c.wait_part-2.ensures.room 0 (c.wait_part.ensures.room 1 c.requires.room)

pub returns-clause-ended : goal.returns-clause-ended
returns-clause-ended g c =
    let f = c.args.frontier.now in
    let k = read_back c.args.floor c.requires.floor in
    split_end (state_of f None) (state_of c.wait_part.new.frontier None) (state_of c.wait_part-2.new.frontier None) (state_of c.keep.new.frontier None)
    (waiting_of f.paths.paths c.args.info.now) (waiting_of c.wait_part.new.frontier.paths.paths c.args.info.now) (waiting_of c.wait_part-2.new.frontier.paths.paths c.args.info.now)
    c.args.pivots c.args.decision c.args.floor c.args.value
    refl
    (c.wait_part.ensures.state ∙ ap (λ (p : Part). with_child (state_of f None) (waiting_of f.paths.paths c.args.info.now) p c.args.value) (c.lower.ensures ∙ ap (lower c.args.decision) k))
    c.wait_part.ensures.kept
    (c.wait_part-2.ensures.state
    ∙ ap (λ (p : Part). with_child (state_of c.wait_part.new.frontier None) (waiting_of c.wait_part.new.frontier.paths.paths c.args.info.now) p c.args.value) (c.upper.ensures ∙ ap (upper c.args.decision) k))
    c.wait_part-2.ensures.kept
    (c.keep.ensures.state
    ∙ ap (λ (k : ℕ). with_opened (state_of c.wait_part-2.new.frontier None) (waiting_of c.wait_part-2.new.frontier.paths.paths c.args.info.now) c.args.pivots (in_parts k)) c.len-first.ensures)
