use Rattle.std.proofs.Common.{◌≡◌, ◌<◌, ℕ, List, Some, false}
use Rattle.std.specs.Prelude.{slice_get}
use Rattle.cell_refs.specs.Sheets.{unquoted}
use Rattle.commands.proofs.Naming.{is_name}
use Rattle.commands.proofs.sheet.find_quoted.Given as goal

-- none so far has the name
abbrev pub invariant-loop-place : goal.invariant-loop-place
invariant-loop-place l = (k : ℕ) → k < l.place → (own : List ℕ) → slice_get l.sheets k ≡ Some own → is_name own (unquoted l.text) ≡ false
