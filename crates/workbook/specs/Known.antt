-- The names that are known where formulas are read.
use Rattle.std.specs.Prelude.{List, option_map}
use Rattle.workbook.specs.declared.named.Scope.{Scope}
use Rattle.workbook.specs.declared.renamed.Edit.{Edit}
use Rattle.workbook.specs.Changed.{after_change, changed}
use Rattle.workbook.specs.State.{Name}

-- those by which a formula is read
abbrev pub names_in : Scope → List Name
names_in scope = changed scope.names.now (option_map (λ c. c.now) scope.change)

-- those after an edit
abbrev pub names_with : Edit → List Name
names_with edit = after_change edit.before.now edit.change.now
