use Rattle.std.proofs.Common.{sym, subst}
use Rattle.kept_forms.specs.Tables.{AreTables}
use Rattle.kept_forms.proofs.Renewed.{no_tables}
use Rattle.kept_forms.proofs.form_tables.FormTables.clear.Goals as goal

pub invariant_of-self : goal.invariant_of-self
invariant_of-self c = subst AreTables (sym c.clear.ensures.items) no_tables
