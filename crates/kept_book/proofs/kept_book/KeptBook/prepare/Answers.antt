use Rattle.sheet_solving.specs.FromSheetLinearModel.{CountsFew, parts_in}
use Rattle.std.proofs.Common.{◌-◌, subst}
use Rattle.kept_book.specs.Kept.{KeptState}
use Rattle.kept_book.proofs.Counted.{none_made}
use Rattle.kept_book.proofs.kept_book.KeptBook.prepare.Goals as goal

pub returns-in_err-references-clause-few : goal.returns-in_err-references-clause-few
returns-in_err-references-clause-few g c =
    let book = c.args.self.now.book in
    none_made book c.args.self.now.tables c.args.sheet.0 (parts_in book c.args.sheet.0) c.args.steps.now

pub returns-clause-few : goal.returns-clause-few
returns-clause-few g c =
    subst (λ (k : KeptState). CountsFew k.book k.tables c.args.sheet.0 (parts_in k.book c.args.sheet.0) (c.prepare-prepared.new.steps - c.args.steps.now)) c.self.view_is c.prepare-prepared.ensures.few
