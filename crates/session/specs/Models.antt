-- What is answered of the model of a sheet.
use Rattle.std.specs.Prelude.{◌≡◌, ℕ}
use Rattle.workbook.specs.State.{State}
use Rattle.commands.specs.declared.answer.Answer.{Answer}
use Rattle.commands.specs.declared.answer.Answer.TheVariants as answer
use Rattle.sheet_linear_model.specs.Answers.{HasNoModel}
use Rattle.sheet_linear_model.specs.Lines.{lines_of}
use Rattle.sheet_linear_model.specs.Prepared.{IsPrepared, Prepared}

-- the linear model of a sheet as it is printed, or the first cause why it has none
abbrev pub Models : State → ℕ → Answer → Type 0
Models book sheet (answer.Model lines) = (p : Prepared) × IsPrepared book sheet p × (lines ≡ lines_of p)
Models book sheet a = HasNoModel book sheet a
