use Rattle.std.proofs.Common.{◌≡◌, Some, drop, map}
use Rattle.cell_refs.specs.declared.error_kind.ErrorKind.TheVariants.{NotAvailable}
use Rattle.form_table.specs.Lookups.{known_value}
use Rattle.form_table.specs.CertainRecords.{errors_in, search_error}
use Rattle.form_areas.specs.Agreed.{joined}
use Rattle.form_areas.proofs.record_errors.search_error.Given as goal

-- what is agreed so far, and what is certain of the rest
abbrev pub invariant-loop-row : goal.invariant-loop-row
invariant-loop-row l =
    search_error l.kind (errors_in l.fields (map Some l.items) l.field) (known_value l.key) 0 (Some NotAvailable) l.keys
    ≡ joined l.agreed (search_error l.kind (errors_in l.fields (map Some l.items) l.field) (known_value l.key) l.row l.before (drop l.row l.keys))
