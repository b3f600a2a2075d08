use Rattle.std.proofs.Common.{◌∙◌, sym}
use Rattle.workbook.specs.Known.{names_in}
use Rattle.workbook.proofs.Spelled.{tree_itself}
use Rattle.workbook.proofs.say.tree.Goals as goal

pub returns-then-names_nothing : goal.returns-then-names_nothing
returns-then-names_nothing c =
    tree_itself c.args.scope.now.sheets.now (names_in c.args.scope.now) c.args.scope.now.home.0 c.args.text.now c.in-Ok.expr c.in-Ok.ensures.tree
    (sym c.names_nothing.ensures ∙ c.if-names_nothing.true)
