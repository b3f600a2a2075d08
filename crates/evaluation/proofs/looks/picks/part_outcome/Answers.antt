use Rattle.std.proofs.Common.{◌∙◌, ◌≡◌, ℕ, ap, subst, length, IfSome}
use Rattle.std.specs.Prelude.{option_map}
use Rattle.recalculation.specs.Looks.{elements}
use Rattle.evaluation.proofs.Picked.{picked_count, picked_is}
use Rattle.evaluation.proofs.looks.picks.part_outcome.Goals as goal

pub single_grid-requires-clause-count : goal.single_grid-requires-clause-count
single_grid-requires-clause-count g c =
    subst (λ (n : ℕ). IfSome c.in_ok-values.values (λ v. length v.items ≡ n))
    (ap length c.requires.cells ∙ picked_count c.args.grid.now c.requires.full c.args.top c.args.left c.args.bottom c.args.right c.requires.within)
    c.in_ok-values.ensures.count

pub returns : goal.returns
returns g c =
    let known = g.C.Cells.known c.args.cells.now in
    c.single_grid.ensures
    ∙ picked_is known c.args.grid.now c.requires.full c.args.top c.args.left c.args.bottom c.args.right c.requires.within
    (option_map (λ v. v.items) c.in_ok-values.values) (c.in_ok-values.ensures.values ∙ ap (elements known) c.requires.cells)
