use Rattle.std.proofs.Common.{◌∙◌, ◌<◌, suc, sym, length, arith}
use Rattle.tableau.proofs.Changing.{narrow_back_again, same_again}
use Rattle.tableau.proofs.objectives.change_both.Goals as goal

pub change_back-requires-clause-narrow : goal.change_back-requires-clause-narrow
change_back-requires-clause-narrow c =
    let within : suc c.args.col < length c.args.objective.now = omega (arith, c.requires.place, c.requires.objective) in
    narrow_back_again c.args.objective.now c.args.leaving.now c.args.by.now c.change.new.row (suc c.args.col) c.requires.pivot c.requires.solved (sym c.requires.objective) within
    c.in-Ok.ensures.made

pub returns-in-Err-change-clause-made : goal.returns-in-Err-change-clause-made
returns-in-Err-change-clause-made c = (
  same_again c.args.objective.now c.args.leaving.now c.args.by.now c.change.new.row c.change_back.new.row (suc c.args.col) c.requires.pivot c.requires.solved (sym c.requires.objective)
      (c.requires.leaving ∙ sym c.requires.objective) c.in-Ok.ensures.made c.change_back.ensures.made,
  c.in-Err-change.ensures.made.0,
  λ n. c.in-Err-change.ensures.made.1 n.1,
)
