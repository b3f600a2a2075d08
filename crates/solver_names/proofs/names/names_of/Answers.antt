use Rattle.std.proofs.Common.{◌≡◌, ◌∙◌, ap, arith, length}
use Rattle.std.proofs.lemmas.List.FromFn.{length-map-range_with_len}
use Rattle.solver_names.specs.Constraints.{constraint}
use Rattle.solver_names.specs.Texts.{or_else}
use Rattle.solver_names.proofs.names.names_of.Goals as goal

pub returns-clause-few : goal.returns-clause-few
returns-clause-few c =
    let n : length c.in_ok-constraints.constraints.items ≡ or_else c.in_ok-count.count 0 =
    ap length c.in_ok-constraints.ensures ∙ length-map-range_with_len (constraint c.args.book.now c.args.sheet.0) 1 (or_else c.in_ok-count.count 0) in
    omega (arith, n, c.in_ok-count.ensures.within)
