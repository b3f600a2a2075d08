use Rattle.std.proofs.Common.{◌≤◌, arith, length, subst, sym}
use Rattle.std.specs.Prelude.{Err}
use Rattle.named_cells.proofs.FromStatementLaws.{statements_are_whole}
use Rattle.open_forms.proofs.FromSheetLinearModel.{is_statement}
use Rattle.sheet_quick.specs.Inner.{NamesOr}
use Rattle.sheet_quick.specs.Opening.{CauseIsListed}
use Rattle.sheet_quick.specs.declared.stops.NoQuick.{NoQuick}
use Rattle.sheet_quick.proofs.Opens.{fault_is, fault_listed, stated_by}
use Rattle.sheet_quick.proofs.opening.statement_or_stop.Goals as goal

pub returns-in-Ok-clause-stated : goal.returns-in-Ok-clause-stated
returns-in-Ok-clause-stated c =
    let few : length c.in-Ok.stated.adj ≤ 512 = c.in-Ok.ensures.few in
    stated_by (is_statement statements_are_whole c.args.book.now c.args.sheet c.in-Ok.stated c.requires.listed c.in-Ok.ensures.answer c.in-Ok.ensures.sheet (omega arith))

pub returns-in-Err : goal.returns-in-Err
returns-in-Err c = record {
  stated = subst (λ (e : NoQuick). NamesOr c.args.book.now c.args.sheet.0 (Err e)) (sym c.cause_of.ensures) (fault_is c.args.book.now c.args.sheet.0 c.in-Err.fault c.in-Err.ensures.answer);
  sheet = tt;
  said = subst (λ (e : NoQuick). CauseIsListed c.args.book.now.sheets e) (sym c.cause_of.ensures) (fault_listed c.args.book.now c.args.sheet.0 c.in-Err.fault c.requires.listed c.in-Err.ensures.answer);
}
