use Rattle.std.proofs.Common.{suc, ◌+◌, ◌≡◌, arith}
use Rattle.dictionaries.proofs.Reaching.{leads_further, first_unrepeated}
use Rattle.simplex.proofs.runs.resume.Goals as goal

pub loop-dict-preserved : goal.loop-dict-preserved
loop-dict-preserved c =
    let r = c.loop-dict.invariant.run in
    let e = c.in-Ok.ensures.made in
    let k : r.0 + c.loop-dict.work.left ≡ c.args.work.now.left = r.2 in
    record {
      run = (suc r.0, leads_further r.0 _ c.loop-dict.dict _ c.in-Pivot.row c.in-Pivot.col r.1 c.in-Pivot.ensures.next e.1 e.0, omega arith);
      reached = c.in-Ok.ensures.reached;
    }

pub returns-in-Best-clause-unrepeated : goal.returns-in-Best-clause-unrepeated
returns-in-Best-clause-unrepeated c = λ later f. first_unrepeated c.args.of.now later c.rows-regular.ensures.regular f

pub returns-in-Infeasible-clause-unrepeated : goal.returns-in-Infeasible-clause-unrepeated
returns-in-Infeasible-clause-unrepeated c = λ later f. first_unrepeated c.args.of.now later c.rows-regular.ensures.regular f

pub returns-in-Unbounded-clause-unrepeated : goal.returns-in-Unbounded-clause-unrepeated
returns-in-Unbounded-clause-unrepeated c = λ later f. first_unrepeated c.args.of.now later c.rows-regular.ensures.regular f

pub returns-then-work-eq0-clause-unrepeated : goal.returns-then-work-eq0-clause-unrepeated
returns-then-work-eq0-clause-unrepeated c = λ later f. first_unrepeated c.args.of.now later c.rows-regular.ensures.regular f

pub returns-in-Err-clause-unrepeated : goal.returns-in-Err-clause-unrepeated
returns-in-Err-clause-unrepeated c = λ later f. first_unrepeated c.args.of.now later c.rows-regular.ensures.regular f
