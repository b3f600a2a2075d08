-- What the steps of calls give each other.
use Rattle.std.specs.Prelude.{List, [], Option, Some, None}
use Rattle.cell_refs.specs.declared.cell.Cell.{Cell}
use Rattle.form_extraction.specs.Parts.{Part}
use Rattle.form_extraction.specs.declared.forms.Outcome.{Outcome}

-- what the chosen argument looks at
abbrev pub looks_of_chosen : Option Part → List Cell
looks_of_chosen (Some p) = p.looks
looks_of_chosen None = []

-- what a branch comes to, and what stands in the place of one that is left out
abbrev pub branch_outcome : Option Part → Outcome → Outcome
branch_outcome (Some p) otherwise = p.outcome
branch_outcome None otherwise = otherwise
