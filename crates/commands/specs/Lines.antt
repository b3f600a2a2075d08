-- The lines that are printed.
use Rattle.std.specs.Prelude.{ℕ, ◌==◌, Bool, true, false, if◌then◌else◌, List, [], ◌∷◌, ◌++◌, All, Some, None, bytes_eq, codes, decimal, length, take}
use Rattle.cell_refs.specs.ErrorText.{error_text}
use Rattle.frac128.specs.Printed.{printed}
use Rattle.sheet_model.specs.declared.value.Value.{Value}
use Rattle.sheet_model.specs.declared.value.Value.TheVariants as value
use Rattle.cell_refs.specs.Listed.{IsListed}
use Rattle.model_lines.specs.Cells.{cell_with_sheet}
use Rattle.model_lines.specs.Lines.{model_text}
use Rattle.commands.specs.declared.answer.Answer.{Answer}
use Rattle.commands.specs.declared.answer.Answer.TheVariants as answer
use Rattle.commands.specs.Certificates.{certificate_text}
use Rattle.commands.specs.Prices.{prices_text}
use Rattle.commands.specs.Refusals.{FaultIsListed, RefusalIsListed, StepIsListed, names_text, pivot_text, refusal_text}

-- a text with each of its quotes doubled
abbrev pub doubled : List ℕ → List ℕ
doubled [] = []
doubled (b ∷ text) = if b == 34 then 34 ∷ 34 ∷ doubled text else b ∷ doubled text

-- a value
abbrev pub value_text : Value → List ℕ
value_text (value.Number x) = codes "number " ++ printed x
value_text (value.Text text) = codes "text \"" ++ doubled text ++ codes "\""
value_text (value.Logical true) = codes "logical TRUE"
value_text (value.Logical false) = codes "logical FALSE"
value_text value.Empty = codes "empty"
value_text (value.Error kind) = codes "error " ++ error_text kind

-- the words of an answer that has no parts
abbrev pub words : Answer → List ℕ
words answer.Done = codes "ok"
words answer.Infeasible = codes "infeasible"
words answer.Unbounded = codes "unbounded"
words answer.Begun = codes "begun"
words answer.Stopped = codes "stopped"
words answer.UnknownCommand = codes "refused unknown-command"
words answer.BadAddress = codes "refused bad-address"
words answer.UnknownSheet = codes "refused unknown-sheet"
words answer.OutOfSheet = codes "refused out-of-sheet"
words answer.BadNumber = codes "refused bad-number"
words answer.BadName = codes "refused bad-name"
words answer.FieldTooLong = codes "refused field-too-long"
words answer.TooManyCells = codes "refused too-many-cells"
words answer.TooManyFormulas = codes "refused too-many-formulas"
words answer.TooManyNames = codes "refused too-many-names"
words answer.NoSearch = codes "refused no-search"
words answer.TooManySearches = codes "refused too-many-searches"
words answer.NoObjective = codes "refused no-objective"
words _ = []

-- an answer, without the end of its last line
abbrev pub said : List (List ℕ) → Answer → List ℕ
said sheets (answer.Shown v) = value_text v
said sheets (answer.Model lines) = model_text sheets lines
said sheets (answer.Optimal None) = codes "optimal"
said sheets (answer.Optimal (Some value)) = codes "optimal " ++ printed value
said sheets (answer.Prices prices) = prices_text prices
said sheets (answer.Cert cert) = certificate_text cert
said sheets (answer.More units) = codes "more " ++ decimal units
said sheets (answer.ToSave files) = codes "saved " ++ decimal (length files.items)
said sheets (answer.WideCell c) = codes "refused wide " ++ cell_with_sheet sheets c
said sheets (answer.Names fault) = codes "refused names " ++ names_text sheets fault
said sheets (answer.Form refusal) = codes "refused " ++ refusal_text sheets refusal
said sheets (answer.WideRow k) = codes "refused wide-row " ++ decimal k
said sheets (answer.NotContinuous c) = codes "refused not-continuous " ++ cell_with_sheet sheets c
said sheets (answer.WidePivot path basis row column) = codes "refused wide-pivot " ++ pivot_text sheets path.items basis.items row column
said sheets (answer.Budget units) = codes "refused budget " ++ decimal units
said sheets (answer.WideRange k) = codes "refused wide-range " ++ decimal k
said sheets (answer.CertLimit weight) = codes "refused cert-limit " ++ decimal weight
said sheets (answer.NoRoom c) = codes "refused no-room " ++ cell_with_sheet sheets c
said sheets a = words a

-- the line or lines of an answer, where the sheets have these names
abbrev pub answer_text : List (List ℕ) → Answer → List ℕ
answer_text sheets a = said sheets a ++ codes "\n"

-- a refusal begins with the word `refused`
abbrev pub is_refusal : List (List ℕ) → Answer → Bool
is_refusal sheets a = bytes_eq (take 8 (said sheets a)) (codes "refused ")

-- which answers can be printed: each cell in them lies on one of the sheets, and memory wasn't wanted
abbrev pub CanBeSaid : List (List ℕ) → Answer → Type 0
CanBeSaid sheets (answer.Model lines) = All (IsListed sheets) lines.decisions
CanBeSaid sheets (answer.WideCell c) = IsListed sheets c
CanBeSaid sheets (answer.Names fault) = FaultIsListed sheets fault
CanBeSaid sheets (answer.Form refusal) = RefusalIsListed sheets refusal
CanBeSaid sheets (answer.NotContinuous c) = IsListed sheets c
CanBeSaid sheets (answer.WidePivot path basis row column) = All (StepIsListed sheets) path.items
CanBeSaid sheets (answer.NoRoom c) = IsListed sheets c
CanBeSaid sheets _ = Unit {0}
