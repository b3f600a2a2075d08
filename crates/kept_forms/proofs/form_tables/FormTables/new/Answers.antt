use Rattle.std.proofs.Common.{sym, subst}
use Rattle.kept_forms.specs.Tables.{AreTables}
use Rattle.kept_forms.proofs.Renewed.{no_tables}
use Rattle.kept_forms.proofs.form_tables.FormTables.new.Goals as goal

pub invariant_of-result : goal.invariant_of-result
invariant_of-result c = subst AreTables (sym c.in_ok-tables.ensures.items) no_tables
