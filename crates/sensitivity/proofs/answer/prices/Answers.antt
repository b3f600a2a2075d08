use Rattle.std.proofs.Common.{◌<◌, false, ap, ◌∙◌, arith}
use Rattle.linear_models.specs.Standard.{standard}
use Rattle.dictionaries.specs.Dictionary.{first_of_program}
use Rattle.sensitivity.proofs.Opened.{from_memory, after_run, true_after_run}
use Rattle.sensitivity.proofs.answer.prices.Goals as goal

pub returns-in_err-program-clause-answer : goal.returns-in_err-program-clause-answer
returns-in_err-program-clause-answer c =
    let some : 0 < c.args.work.now.left = omega arith in
    from_memory c.args.of.now c.args.work.now.left c.from_residual.result some c.from_residual.ensures.1

pub returns-in_err-dict-clause-answer : goal.returns-in_err-dict-clause-answer
returns-in_err-dict-clause-answer c =
    let some : 0 < c.args.work.now.left = omega arith in
    from_memory c.args.of.now c.args.work.now.left c.from_residual-in_err-dict.result some c.from_residual-in_err-dict.ensures.1

pub returns-clause-answer : goal.returns-clause-answer
returns-clause-answer c =
    let r = c.run_to_prices.ensures.run in
    let some : 0 < c.args.work.now.left = omega arith in
    after_run c.args.of.now c.args.work.now.left c.run_to_prices.new.work.left r.0 _ c.run_to_prices.new.dict c.run_to_prices.result some
    (c.in_ok-dict.ensures.first ∙ ap first_of_program (c.in_ok-program.ensures.program ∙ ap (λ b. standard c.args.of.now b false) c.bounds.ensures)) r.1 r.2 c.run_to_prices.ensures.answer

pub returns-clause-truth : goal.returns-clause-truth
returns-clause-truth c =
    let r = c.run_to_prices.ensures.run in
    true_after_run c.args.of.now c.run_to_prices.new.work.left r.0 _ c.run_to_prices.new.dict c.run_to_prices.result c.requires
    (c.in_ok-dict.ensures.first ∙ ap first_of_program (c.in_ok-program.ensures.program ∙ ap (λ b. standard c.args.of.now b false) c.bounds.ensures)) r.1 c.run_to_prices.ensures.answer
