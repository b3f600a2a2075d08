use Rattle.std.proofs.Common.{◌∙◌, ◌<◌, ◌≤◌, suc, ap, length, arith, set}
use Rattle.tableau.proofs.Changing.{narrow_rows_back, all_back}
use Rattle.tableau.proofs.Elements.{rows_by_substitution}
use Rattle.tableau.proofs.rows.change_rows.Goals as goal

pub restore_before-requires-clause-narrow : goal.restore_before-requires-clause-narrow
restore_before-requires-clause-narrow c =
    let within : c.in-Err.end ≤ length c.args.rows.now = omega (arith, c.in-Err.ensures.made.1) in
    narrow_rows_back c.args.rows.now c.change_before.new.rows c.in-Err.end c.args.leaving (suc c.args.col) c.args.by.now c.requires.leaving c.requires.place within
    c.requires.pivot c.requires.solved c.requires.widths c.in-Err.ensures.made.0

pub returns-in-Ok-clause-made : goal.returns-in-Ok-clause-made
returns-in-Ok-clause-made c = (
  ap (set c.change_before.new.rows c.args.leaving) c.swap.ensures.x_after
      ∙ rows_by_substitution c.args.rows.now c.change_before.new.rows c.args.leaving (suc c.args.col) c.args.by.now c.requires.leaving c.in-Ok.ensures.made.size
      (λ q l m. (c.in-Ok.ensures.made.changed q l m).value),
  λ i l m. (c.in-Ok.ensures.made.changed i l m).narrow,
)

pub returns-in-Err-clause-made : goal.returns-in-Err-clause-made
returns-in-Err-clause-made c =
    let first : c.in-Err.end < length c.args.rows.now = c.in-Err.ensures.made.1 in
    let within : c.in-Err.end ≤ length c.args.rows.now = omega (arith, first) in (
      all_back c.args.rows.now c.change_before.new.rows c.restore_before.new.rows c.in-Err.end c.args.leaving (suc c.args.col) c.args.by.now c.requires.leaving within
          c.requires.pivot c.requires.solved c.requires.widths c.in-Err.ensures.made.0 c.restore_before.ensures.made,
      λ n. c.in-Err.ensures.made.3 (n c.in-Err.end first c.in-Err.ensures.made.2),
    )
