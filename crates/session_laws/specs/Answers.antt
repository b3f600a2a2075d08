-- When two answers tell the same.
use Rattle.std.specs.Prelude.{◌≡◌, string_bytes}
use Rattle.opt_certificate.specs.Claims.{claim_of}
use Rattle.solver_names.specs.declared.fault.NamesFault.{NamesFault}
use Rattle.solver_names.specs.declared.fault.NamesFault.TheVariants as told
use Rattle.commands.specs.declared.answer.Answer.{Answer}
use Rattle.commands.specs.declared.answer.Answer.TheVariants as answer

-- faults are equal, but that their texts have the same bytes, wherever these lie in memory
abbrev pub SameFault : NamesFault → NamesFault → Type 0
SameFault (told.BadReference text) (told.BadReference other) = string_bytes text ≡ string_bytes other
SameFault (told.BadRelation k text) (told.BadRelation l other) = (k ≡ l) × (string_bytes text ≡ string_bytes other)
SameFault (told.BadOption text) (told.BadOption other) = string_bytes text ≡ string_bytes other
SameFault fault other = fault ≡ other

-- answers are equal, but that their lists have the same elements, wherever these lie in memory
abbrev pub SameAnswer : Answer → Answer → Type 0
SameAnswer (answer.ToSave files) (answer.ToSave others) = files.items ≡ others.items
SameAnswer (answer.Prices lines) (answer.Prices others) = (lines.value ≡ others.value) × (lines.rows.items ≡ others.rows.items)
SameAnswer (answer.Cert c) (answer.Cert d) = (c.tree ≡ d.tree) × (claim_of c.claim ≡ claim_of d.claim) × (c.value ≡ d.value)
SameAnswer (answer.Names fault) (answer.Names other) = SameFault fault other
SameAnswer (answer.WidePivot path basis leaves enters) (answer.WidePivot steps given left entered) =
    (path.items ≡ steps.items) × (basis.items ≡ given.items) × (leaves ≡ left) × (enters ≡ entered)
SameAnswer a b = a ≡ b
