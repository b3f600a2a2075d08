-- How the errors of cells are printed (OpenDocument 1.2, part 2, section 5.12, and two of our own).
use Rattle.std.specs.Prelude.{ℕ, List, codes}
use Rattle.cell_refs.specs.declared.error_kind.ErrorKind.{ErrorKind}
use Rattle.cell_refs.specs.declared.error_kind.ErrorKind.TheVariants as kind

-- what is printed of an error
abbrev pub error_text : ErrorKind → List ℕ
error_text kind.Div0 = codes "#DIV/0!"
error_text kind.Value = codes "#VALUE!"
error_text kind.Ref = codes "#REF!"
error_text kind.Num = codes "#NUM!"
error_text kind.NotAvailable = codes "#N/A"
error_text kind.Circular = codes "#CIRCULAR"
error_text kind.Malformed = codes "#MALFORMED"
