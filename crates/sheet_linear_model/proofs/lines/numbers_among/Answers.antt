use Rattle.linear_models.specs.Conditions.{constraints}
use Rattle.std.proofs.Common.{map}
use Rattle.solver_names.specs.Answers.{row_of}
use Rattle.form_needs.specs.FromSheetProblems.{condition_of}
use Rattle.sheet_linear_model.specs.Lines.{row_numbers}
use Rattle.sheet_linear_model.proofs.Looping.{numbers_step}
use Rattle.sheet_linear_model.proofs.lines.numbers_among.Goals as goal

pub loop-place-preserved : goal.loop-place-preserved
loop-place-preserved c =
    numbers_step c.args.decisions.now c.args.rows.now c.args.sides.now c.loop-place.place c.loop-place.numbers.items c.push_number.new.numbers.items
    (row_numbers (map row_of c.args.rows.now) (constraints (map (condition_of c.args.decisions.now) (map row_of c.args.rows.now)) c.args.sides.now)) _ c.index-sides-place.result c.requires
    c.loop-place-test.true c.in_ok-push_number.ensures c.loop-place.invariant
