use Rattle.std.proofs.Common.{◌≡◌, ◌<◌, ◌∙◌, sym, ap, subst, length, arith}
use Rattle.std.proofs.lemmas.List.{length-replicate, length-set}
use Rattle.fractions.specs.Rational.{neg_ℚ, zero_ℚ}
use Rattle.tableau.proofs.Made.{put_here}
use Rattle.tableau.proofs.Solving.{IsRestSolved, rest_solved, solved_result, entry_of_result}
use Rattle.tableau.proofs.numbers.solve_for.Goals as goal

pub returns-in-Ok-clause-made : goal.returns-in-Ok-clause-made
returns-in-Ok-clause-made c =
    let width : length c.clear.new.self ≡ length c.args.into.now = ap length c.clear.ensures ∙ length-replicate (length c.args.into.now) zero_ℚ in
    let some : 0 < length c.clear.new.self = omega (arith, c.requires.place, c.requires.room, width) in
    let size : length c.solve_entries.new.into ≡ length c.args.row.now = c.solve_entries.ensures.size ∙ ap length c.set_rest.ensures ∙ length-set c.clear.new.self 0 c.in-Ok.solved ∙ width ∙ c.requires.room in
    solved_result c.args.row.now c.solve_entries.new.into c.args.col c.solve_entries.result c.requires.place size
    (subst (IsRestSolved c.args.row.now c.args.col) (sym (c.solve_entries.ensures.rest ∙ put_here c.clear.new.self c.set_rest.new.self 0 c.in-Ok.solved c.set_rest.ensures some))
    (rest_solved c.args.row.now c.args.col c.in-Ok.solved c.neg-rest.result c.entry-pivot.result (c.neg-rest.ensures ∙ ap neg_ℚ c.rest.ensures) c.entry-pivot.ensures c.in-Ok.ensures))
    c.solve_entries.ensures.made

pub returns-in-Ok-clause-entry : goal.returns-in-Ok-clause-entry
returns-in-Ok-clause-entry c = entry_of_result c.args.row.now c.solve_entries.new.into c.args.col c.solve_entries.result c.requires.entry (returns-in-Ok-clause-made c)
