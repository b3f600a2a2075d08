use Rattle.std.proofs.Common.{refl, Some, None}
use Rattle.workbook.proofs.Texts.{says_number, says_other, says_wide}
use Rattle.workbook.proofs.say.constant.Goals as goal

pub returns-in-Ok-clause-agrees : goal.returns-in-Ok-clause-agrees
returns-in-Ok-clause-agrees c = says_number c.args.text.now c.in-Ok.number c.in-Ok.ensures.ok

pub returns-in-Err-TooWide-clause-agrees : goal.returns-in-Err-TooWide-clause-agrees
returns-in-Err-TooWide-clause-agrees c = let told = rw c.in-Err-TooWide.field-0-is at c.in-Err-TooWide.ensures.too_wide in says_wide c.args.text.now (told.0 refl)

pub returns-in-Some-clause-agrees : goal.returns-in-Some-clause-agrees
returns-in-Some-clause-agrees c = let told = rw c.in-Err-NotNumeral.field-0-is at c.in-Err-NotNumeral.ensures.not_numeral in says_other c.args.text.now (Some c.in-Some.holds) (told.0 refl) c.in-Some.ensures

pub returns-in-None-clause-agrees : goal.returns-in-None-clause-agrees
returns-in-None-clause-agrees c = let told = rw c.in-Err-NotNumeral.field-0-is at c.in-Err-NotNumeral.ensures.not_numeral in says_other c.args.text.now None (told.0 refl) c.in-None.ensures
