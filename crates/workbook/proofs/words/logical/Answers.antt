use Rattle.std.specs.Prelude.{codes}
use Rattle.formula_parser.proofs.Letters.{tested}
use Rattle.workbook.proofs.Texts.{first_word, no_word, second_word}
use Rattle.workbook.proofs.words.logical.Goals as goal

pub returns-then-eq_ignore_ascii_case : goal.returns-then-eq_ignore_ascii_case
returns-then-eq_ignore_ascii_case c = first_word c.args.text.now (tested c.args.text.now (codes "TRUE") _ c.if-eq_ignore_ascii_case.ensures.test)

pub returns-then-eq_ignore_ascii_case-2 : goal.returns-then-eq_ignore_ascii_case-2
returns-then-eq_ignore_ascii_case-2 c =
    second_word c.args.text.now (tested c.args.text.now (codes "TRUE") _ c.if-eq_ignore_ascii_case.ensures.test)
    (tested c.args.text.now (codes "FALSE") _ c.if-eq_ignore_ascii_case-2.ensures.test)

pub returns-else-eq_ignore_ascii_case-2 : goal.returns-else-eq_ignore_ascii_case-2
returns-else-eq_ignore_ascii_case-2 c =
    no_word c.args.text.now (tested c.args.text.now (codes "TRUE") _ c.if-eq_ignore_ascii_case.ensures.test)
    (tested c.args.text.now (codes "FALSE") _ c.if-eq_ignore_ascii_case-2.ensures.test)
