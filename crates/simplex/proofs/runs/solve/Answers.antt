use Rattle.std.proofs.Common.{arith, subst}
use Rattle.dictionaries.specs.Run.{Leads}
use Rattle.dictionaries.specs.Dictionary.{first_of_program}
use Rattle.dictionaries.proofs.Reaching.{leads_nowhere, first_unrepeated}
use Rattle.simplex.proofs.Both.{both}
use Rattle.simplex.proofs.runs.solve.Goals as goal

pub returns-in-Err-clause-run : goal.returns-in-Err-clause-run
returns-in-Err-clause-run c = (first_of_program c.args.of.now, 0, leads_nowhere (first_of_program c.args.of.now), omega arith, tt)

pub returns-in-Err-clause-unrepeated : goal.returns-in-Err-clause-unrepeated
returns-in-Err-clause-unrepeated c = λ later f. first_unrepeated c.args.of.now later c.rows-regular.ensures.regular f

pub returns-in-Ok-clause-unrepeated : goal.returns-in-Ok-clause-unrepeated
returns-in-Ok-clause-unrepeated c = λ later f. first_unrepeated c.args.of.now later c.rows-regular.ensures.regular f

pub returns-in-Ok-clause-run : goal.returns-in-Ok-clause-run
returns-in-Ok-clause-run c =
    let r = c.resume.ensures.run in
    (c.resume.new.dict, r.0, subst (λ d. Leads r.0 d c.resume.new.dict) c.in-Ok.ensures.first r.1, r.2, both _ _ c.resume.result c.resume.ensures.answer c.resume.ensures.stop)
