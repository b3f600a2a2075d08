use Rattle.std.proofs.Common.{◌∙◌, sym}
use Rattle.workbook.specs.Known.{names_in}
use Rattle.workbook.proofs.Spelled.{says_itself, says_nameless}
use Rattle.workbook.proofs.say.formula.Goals as goal

pub returns-then-names_nothing : goal.returns-then-names_nothing
returns-then-names_nothing c =
    says_itself c.args.scope.now.sheets.now (names_in c.args.scope.now) c.args.scope.now.home c.args.cell c.args.text.now c.in-Ok.expr c.said_of.result c.requires.home c.requires.begins
    c.in-Ok.ensures.tree (sym c.names_nothing.ensures ∙ c.if-names_nothing.true) (c.said_of.ensures.agrees c.args.text.now) c.said_of.ensures.sound

pub returns : goal.returns
returns c =
    says_nameless c.args.scope.now.sheets.now (names_in c.args.scope.now) c.args.scope.now.home c.args.cell c.args.text.now c.said_of-said.result c.requires.home c.requires.begins
    c.in-Ok.expr c.in-Ok.ensures.tree c.in_ok-with_names.field-0 c.in_ok-with_names.ensures (c.said_of-said.ensures.agrees c.args.text.now) c.said_of-said.ensures.sound
    (sym c.uses.ensures ∙ c.if-uses.false)
