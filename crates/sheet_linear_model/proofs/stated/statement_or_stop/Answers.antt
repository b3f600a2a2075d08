use Rattle.std.proofs.Common.{◌≤◌, arith, length, subst, sym}
use Rattle.std.specs.Prelude.{Err}
use Rattle.statement_laws.proofs.ToldCells.{faults_are_listed}
use Rattle.statement_laws.proofs.Wholes.{statements_are_whole}
use Rattle.sheet_linear_model.specs.Answers.{Prepares, StopIsListed}
use Rattle.sheet_linear_model.specs.declared.prepared.NoModel.{NoModel}
use Rattle.sheet_linear_model.proofs.Opening.{is_statement}
use Rattle.sheet_linear_model.specs.Inner.{GivesNone}
use Rattle.sheet_linear_model.proofs.Refusals.{fault_prepares, fault_said}
use Rattle.sheet_linear_model.proofs.Settled.{fault_gives_none}
use Rattle.sheet_linear_model.proofs.stated.statement_or_stop.Goals as goal

pub returns-in-Ok-clause-statement : goal.returns-in-Ok-clause-statement
returns-in-Ok-clause-statement c =
    let few : length c.in-Ok.stated.adj ≤ 512 = c.in-Ok.ensures.few in
    is_statement statements_are_whole c.args.book.now c.args.sheet c.in-Ok.stated c.requires.listed c.in-Ok.ensures.answer c.in-Ok.ensures.sheet (omega arith)

pub returns-in-Err : goal.returns-in-Err
returns-in-Err c = record {
  statement = tt;
  sheet = tt;
  none = subst (λ (e : NoModel). GivesNone c.args.book.now c.args.sheet.0 e) (sym c.stop_of.ensures) (fault_gives_none c.args.book.now c.args.sheet.0 c.in-Err.fault c.in-Err.ensures.answer);
  fault = subst (λ (e : NoModel). Prepares c.args.book.now c.args.sheet.0 (Err e)) (sym c.stop_of.ensures) (fault_prepares c.args.book.now c.args.sheet.0 c.in-Err.fault c.in-Err.ensures.answer);
  said = subst (λ (e : NoModel). StopIsListed c.args.book.now e) (sym c.stop_of.ensures) (fault_said faults_are_listed c.args.book.now c.args.sheet.0 c.in-Err.fault c.requires.listed c.in-Err.ensures.answer);
}
