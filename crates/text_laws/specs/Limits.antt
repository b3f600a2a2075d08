-- How large sheets, workbooks and files may be, as numbers.
use Rattle.std.specs.Prelude.{◌≡◌}
use Rattle.cell_refs.specs.declared.limits.TheConstants.{COLUMNS, FILE_BYTES, FORMULAS, NAMES, ROWS, SHEETS, TEXTS, TEXT_BYTES}
use Rattle.cell_refs.specs.declared.adj.TheConstants.{DECISIONS}

-- the limits that definitions, code and printed lines share
pub record LimitsAre : Type 0 where
  pub rows : ROWS ≡ 4096
  pub columns : COLUMNS ≡ 1024
  pub sheets : SHEETS ≡ 32
  pub bytes_of_a_text : TEXT_BYTES ≡ 8192
  pub cells_with_a_text : TEXTS ≡ 65536
  pub formulas : FORMULAS ≡ 16384
  pub names : NAMES ≡ 32768
  pub bytes_of_a_file : FILE_BYTES ≡ 16777216
  -- how many a list of cells to be decided holds
  pub listed_decisions : DECISIONS ≡ 512
