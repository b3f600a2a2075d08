use Rattle.std.proofs.Common.{◌∙◌, List, ap}
use Rattle.workbook.specs.State.{Name, text_of}
use Rattle.workbook.proofs.NameLaws.{short_there}
use Rattle.workbook.proofs.workbook.Workbook.text_of_name.Goals as goal

pub returns-clause-short : goal.returns-clause-short
returns-clause-short c =
    short_there c.args.self.now.names c.in_ok-key.key.sheet c.args.name.now c.text.result c.names.ensures.short
    (c.text.ensures c.args.name.now c.in_ok-key.ensures.letters ∙ ap (λ (ns : List Name). text_of ns c.in_ok-key.key.sheet c.args.name.now) c.names.ensures.names)
