use Rattle.std.proofs.Common.{◌∙◌, Some, ap}
use Rattle.workbook.proofs.NameLaws.{text_found, text_in}
use Rattle.workbook.proofs.names.Names.text.Goals as goal

pub returns-in-Some : goal.returns-in-Some
returns-in-Some c = λ name small.
    ap Some (c.as_str.ensures.value ∙ ap (λ n. n.text) c.name.view_is) ∙ ap text_in c.in-Some.ensures.value
    ∙ text_found c.args.key.now name c.self.inside.names.entries c.args.self.now c.self.view_is small c.self.invariant

pub returns-in-None : goal.returns-in-None
returns-in-None c = λ name small.
    ap text_in c.in-None.ensures.value ∙ text_found c.args.key.now name c.self.inside.names.entries c.args.self.now c.self.view_is small c.self.invariant
