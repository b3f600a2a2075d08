use Rattle.std.proofs.Common.{◌∙◌, ap}
use Rattle.workbook.specs.State.{text_count}
use Rattle.workbook.proofs.workbook.Workbook.texts.Goals as goal

pub returns : goal.returns
returns c = c.len.ensures.len ∙ c.self.invariant.kept.counted ∙ ap (λ s. text_count s.contents) c.self.view_is
